-- The requests of the program.
use Rattle.std.specs.Prelude.{ℕ, pos, false, List, ◌++◌, Option, Some, None, codes}
use Rattle.std.specs.Fmt.{decimal}
use Rattle.ua_builtin.specs.NodeId.{null_id}
use Rattle.ua_builtin.specs.declared.date_time.DateTime.{DateTime}
use Rattle.ua_builtin.specs.declared.extension_object.ExtensionObject.{ExtensionObject}
use Rattle.ua_builtin.specs.declared.node_id.NodeId.{NodeId}
use Rattle.ua_wire.specs.declared.double_bits.DoubleBits.{DoubleBits}
use Rattle.ua_services.specs.Identity.{identity_object}
use Rattle.ua_services.specs.declared.request.Request.{Request}
use Rattle.ua_services.specs.declared.request.Request.TheVariants.{GetEndpoints, CreateSession, ActivateSession, CloseSession, Read, Write}
use Rattle.ua_opening.specs.Plain.{request_header_of}
use Rattle.ua_structures.specs.Plain.{application_of, get_endpoints_request_of, create_session_of, activate_session_of, read_of, write_of, value_of_node}
use Rattle.ua_structures.specs.Session.{anonymous_identity_token}
use Rattle.ua_structures.specs.declared.attribute.ReadValueId.{ReadValueId}
use Rattle.ua_structures.specs.declared.attribute.WriteValue.{WriteValue}
use Rattle.ua_variant.specs.Data.{VariantData}
use Rattle.ua_variant.specs.declared.values.DataValue.{DataValue}

-- the address of a server on this machine
unfoldable pub local_url : ℕ → List ℕ
local_url port = codes "opc.tcp://localhost:" ++ decimal port

-- GetEndpoints under no token, for any locale and profile
abbrev pub get_endpoints : Option (List ℕ) → DateTime → ℕ → Request
get_endpoints url moment handle = GetEndpoints (get_endpoints_request_of (request_header_of null_id moment handle) url)

-- a timeout of 120000 ms, as the bit pattern of a Double
abbrev pub session_timeout : DoubleBits
session_timeout = record { bits = 0x40FD4C0000000000 }

-- CreateSession under no token, of the client `ua`, for a session of that name
abbrev pub create_session : Option (List ℕ) → DateTime → ℕ → Request
create_session url moment handle =
    CreateSession (create_session_of (request_header_of null_id moment handle) (application_of (pos 1) (Some (codes "urn:ua:client")) (Some (codes "ua")) None)
    url (Some (codes "ua")) session_timeout)

-- the PolicyId of the token policy that the program uses if no other is given
abbrev pub anonymous_id : Option (List ℕ)
anonymous_id = Some (codes "anonymous")

-- the identity of a user without a name, by the token policy with this PolicyId (OPC 10000-4,
-- 7.41.3)
abbrev pub anonymous_identity : Option (List ℕ) → ExtensionObject
anonymous_identity policy_id = identity_object (anonymous_identity_token.canonical (record { policy_id = policy_id }))

-- ActivateSession by this identity
abbrev pub activate_session_as : Option (List ℕ) → NodeId → DateTime → ℕ → Request
activate_session_as policy_id token moment handle = ActivateSession (activate_session_of (request_header_of token moment handle) (anonymous_identity policy_id))

-- ActivateSession by the policy `anonymous`
abbrev pub activate_session : NodeId → DateTime → ℕ → Request
activate_session token moment handle = activate_session_as anonymous_id token moment handle

-- CloseSession, which keeps subscriptions
abbrev pub close_session : NodeId → DateTime → ℕ → Request
close_session token moment handle = CloseSession (record { request_header = request_header_of token moment handle; delete_subscriptions = false })

-- a Read of these items, whatever the age of their values, with both timestamps
abbrev pub read : NodeId → DateTime → ℕ → List ReadValueId → Request
read token moment handle items = Read (read_of (request_header_of token moment handle) items)

-- a Write of these items
abbrev pub write : NodeId → DateTime → ℕ → List WriteValue → Request
write token moment handle items = Write (write_of (request_header_of token moment handle) items)

-- an attribute of a node, by its id (OPC 10000-6, A.1), a part of it or the whole if the range is
-- null
abbrev pub attribute_of_node : NodeId → ℕ → Option (List ℕ) → ReadValueId
attribute_of_node node attribute range = record (value_of_node node) { attribute_id = attribute; index_range = range }

-- a part of the Value of a node, attribute 13, or the whole if the range is null
abbrev pub part_of_node : NodeId → Option (List ℕ) → ReadValueId
part_of_node node range = attribute_of_node node 13 range

-- a value alone, without status and timestamps
abbrev pub value_alone : VariantData → DataValue
value_alone v = record { value = Some v; status = None; source_timestamp = None; source_picoseconds = None; server_timestamp = None; server_picoseconds = None }
