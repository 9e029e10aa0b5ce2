-- Answers as JSON (RFC 8259): each line is one object. Its text is what the crate `json` prints of
-- it: no spaces, the shortest escapes.
use Rattle.std.specs.Prelude.{ℕ, ℤ, Bool, true, leb, unsigned_abs, cond, ◌==◌, map, option_map, length, List, [], ◌∷◌, ◌++◌, Option, Some, None, codes}
use Rattle.std.specs.Fmt.{decimal, signed_decimal}
use Rattle.base64.specs.Engines.{standard}
use Rattle.base64.specs.GeneralPurpose.{encode_of}
use Rattle.json.specs.Json as json
use Rattle.json.specs.Json.{Json}
use Rattle.json.specs.Print.{print}
use Rattle.json.specs.Tree.{json_tokens}
use Rattle.ua_builtin.specs.NodeText.{node_text}
use Rattle.ua_builtin.specs.declared.date_time.DateTime.{DateTime}
use Rattle.ua_builtin.specs.declared.node_id.NodeId.{NodeId}
use Rattle.ua_builtin.specs.declared.status_code.StatusCode.{StatusCode}
use Rattle.ua_structures.specs.declared.discovery.EndpointDescription.{EndpointDescription}
use Rattle.ua_structures.specs.declared.discovery.UserTokenPolicy.{UserTokenPolicy}
use Rattle.ua_variant.specs.Data.{LeafData, boolean, sbyte, byte, int16, uint16, int32, uint32, int64, uint64, float, double, string, date_time, guid}
use Rattle.ua_variant.specs.Data.{byte_string, xml_element, node_id, expanded_node_id, status_code, qualified_name, localized_text, extension_object}
use Rattle.ua_variant.specs.Data.{reserved, VariantData, null, one, absent, many, ScalarData, leaf, data_value, variant, diagnostic}
use Rattle.ua_variant.specs.Encodable.{kind_of_scalar, variant_encodable}
use Rattle.ua_variant.specs.View.{row_list}
use Rattle.ua_variant.specs.declared.values.DataValue.{DataValue}
use Rattle.ua_texts.specs.Names.{name_of_code, number_of}
use Rattle.ua_texts.specs.Shown.{code_text}
use Rattle.ua_texts.specs.Values.{leaf_text, scalar_text, type_name}
use Rattle.ua_answers.specs.declared.style.EndpointStyle.{EndpointStyle}
use Rattle.ua_answers.specs.declared.style.LineStyle.{LineStyle}

-- ---- objects, arrays and texts

-- a member of an object: its name and its value
abbrev pub Field : Type 0
Field = List ℕ × Json

-- the members of an object, in this order
abbrev pub members_of : List Field → json.Members
members_of [] = json.no_members
members_of (field ∷ fields) = json.member field.0 field.1 (members_of fields)

-- the elements of an array
abbrev pub json_items : List Json → json.Items
json_items [] = json.no_items
json_items (item ∷ items) = json.item item (json_items items)

abbrev pub object : List Field → Json
object fields = json.object (members_of fields)

abbrev pub json_array : List Json → Json
json_array items = json.array (json_items items)

-- a text, or null
abbrev pub text_or_null : Option (List ℕ) → Json
text_or_null None = json.null
text_or_null (Some text) = json.string text

-- ---- scalars

-- the greatest magnitude up to which a Double holds each whole number, 2^53
abbrev pub most_exact : ℕ
most_exact = 9007199254740992

-- an Int64: a number from -2^53 to 2^53, otherwise a string of its digits
abbrev pub int64_json : ℤ → Json
int64_json n = cond (leb (unsigned_abs n) most_exact) (json.number (signed_decimal n)) (json.string (signed_decimal n))

-- a UInt64: a number up to 2^53, otherwise a string of its digits
abbrev pub uint64_json : ℕ → Json
uint64_json n = cond (leb n most_exact) (json.number (decimal n)) (json.string (decimal n))

-- a scalar that contains no other value: Boolean as true or false, whole numbers as numbers, a
-- String unchanged, a ByteString in base64, null as null; all others as strings of the texts that
-- they have in lines that are not JSON
abbrev pub leaf_json : LeafData → Json
leaf_json (boolean b) = json.boolean b
leaf_json (sbyte n) = json.number (signed_decimal n)
leaf_json (byte n) = json.number (decimal n)
leaf_json (int16 n) = json.number (signed_decimal n)
leaf_json (uint16 n) = json.number (decimal n)
leaf_json (int32 n) = json.number (signed_decimal n)
leaf_json (uint32 n) = json.number (decimal n)
leaf_json (int64 n) = int64_json n
leaf_json (uint64 n) = uint64_json n
leaf_json (float p) = json.string (leaf_text (float p))
leaf_json (double p) = json.string (leaf_text (double p))
leaf_json (string s) = text_or_null s
leaf_json (date_time t) = json.string (leaf_text (date_time t))
leaf_json (guid g) = json.string (leaf_text (guid g))
leaf_json (byte_string b) = text_or_null (option_map (encode_of standard) b)
leaf_json (xml_element x) = json.string (leaf_text (xml_element x))
leaf_json (node_id x) = json.string (leaf_text (node_id x))
leaf_json (expanded_node_id x) = json.string (leaf_text (expanded_node_id x))
leaf_json (status_code c) = json.string (leaf_text (status_code c))
leaf_json (qualified_name x) = json.string (leaf_text (qualified_name x))
leaf_json (localized_text x) = json.string (leaf_text (localized_text x))
leaf_json (extension_object x) = json.string (leaf_text (extension_object x))
leaf_json (reserved k x) = json.string (leaf_text (reserved k x))

-- a scalar: one that contains other values as a string of the bytes of its canonical encoding
abbrev pub scalar_json : ScalarData → Json
scalar_json (leaf l) = leaf_json l
scalar_json (data_value d) = json.string (scalar_text (data_value d))
scalar_json (variant v) = json.string (scalar_text (variant v))
scalar_json (diagnostic d) = json.string (scalar_text (diagnostic d))

-- ---- values

-- a signed number
abbrev pub signed_json : ℤ → Json
signed_json n = json.number (signed_decimal n)

-- the dimensions of an array, if it has any
abbrev pub dimension_fields : List ℤ → List Field
dimension_fields ds = cond (length ds == 0) [] ((codes "dimensions", json_array (map signed_json ds)) ∷ [])

-- the elements of an array, or null
abbrev pub items_json : Option (List ScalarData) → Json
items_json None = json.null
items_json (Some items) = json_array (map scalar_json items)

-- the type of the elements of an array followed by `[]`, its elements and its dimensions
abbrev pub array_fields : ℕ → Option (List ScalarData) → List ℤ → List Field
array_fields k items ds = (codes "type", json.string (type_name k ++ codes "[]")) ∷ (codes "value", items_json items) ∷ dimension_fields ds

-- the type and the value of a scalar
abbrev pub scalar_fields : ScalarData → List Field
scalar_fields s = (codes "type", json.string (type_name (kind_of_scalar s))) ∷ (codes "value", scalar_json s) ∷ []

-- the type and the value of a Variant; the absent value has the type `Null`
abbrev pub variant_fields : VariantData → List Field
variant_fields null = (codes "type", json.string (codes "Null")) ∷ (codes "value", json.null) ∷ []
variant_fields (one s) = scalar_fields s
variant_fields (absent k ds) = array_fields k None ds
variant_fields (many k ss ds) = array_fields k (Some (row_list ss)) ds

-- the fields of a value that cannot be encoded
abbrev pub unwritable_fields : List Field
unwritable_fields = (codes "unwritable", json.boolean true) ∷ []

-- a value: one that cannot be encoded is `unwritable`, without its type
abbrev pub written_fields : VariantData → List Field
written_fields v = cond (variant_encodable v) (variant_fields v) unwritable_fields

-- the value of an answer, if there is one
abbrev pub value_fields : Option VariantData → List Field
value_fields None = []
value_fields (Some v) = written_fields v

-- ---- lines

-- the name of a code, if names are wanted and it has one
abbrev pub name_fields : Bool → Option (List ℕ) → List Field
name_fields names None = []
name_fields names (Some name) = cond names ((codes "name", json.string name) ∷ []) []

-- a NodeId and a status, with its name if names are wanted
abbrev pub status_fields : Bool → NodeId → ℕ → List Field
status_fields names node code = (codes "node", json.string (node_text node)) ∷ (codes "status", json.string (code_text code)) ∷ name_fields names
    (name_of_code code)

-- a timestamp: a string of its ticks, or null
abbrev pub time_json : Option DateTime → Json
time_json moment = text_or_null (option_map (λ m. signed_decimal m.ticks) moment)

-- the timestamps of an answer, the source's and the server's
abbrev pub both_fields : DataValue → List Field
both_fields answer = (codes "source", time_json answer.source_timestamp) ∷ (codes "server", time_json answer.server_timestamp) ∷ []

-- the timestamps, if they are wanted
abbrev pub time_fields : Bool → DataValue → List Field
time_fields times answer = cond times (both_fields answer) []

-- a token policy, its type by its number
abbrev pub policy_json : UserTokenPolicy → Json
policy_json p = object ((codes "id", text_or_null p.policy_id) ∷ (codes "type", signed_json p.token_type) ∷ [])

-- the token policies of an endpoint, or null
abbrev pub policies_json : Option (List UserTokenPolicy) → Json
policies_json None = json.null
policies_json (Some policies) = json_array (map policy_json policies)

-- the token policies, if they are wanted
abbrev pub policy_fields : Bool → Option (List UserTokenPolicy) → List Field
policy_fields wanted policies = cond wanted ((codes "policies", policies_json policies) ∷ []) []

-- the address of a server and its security, the mode by its number
abbrev pub address_fields : EndpointDescription → List Field
address_fields e =
    (codes "url", text_or_null e.endpoint_url) ∷ (codes "mode", signed_json e.security_mode) ∷ (codes "policy", text_or_null e.security_policy_uri) ∷ []

-- the answer to an item of a Read
unfoldable pub read_json : LineStyle → NodeId → DataValue → Json
read_json style node answer = object (status_fields style.names node (number_of answer.status) ++ (value_fields answer.value ++ time_fields style.times answer))

-- the answer to an item of a Write
unfoldable pub write_json : LineStyle → NodeId → StatusCode → Json
write_json style node status = object (status_fields style.names node status.code)

-- an endpoint
unfoldable pub endpoint_json : EndpointStyle → EndpointDescription → Json
endpoint_json style e = object (address_fields e ++ policy_fields style.policies e.user_identity_tokens)

-- the line of an object
unfoldable pub json_line : Json → List ℕ
json_line j = print (json_tokens j) ++ codes "\n"
