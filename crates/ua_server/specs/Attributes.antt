-- The results of Read and Write (OPC 10000-4, 5.11).
use Rattle.std.specs.Prelude.{ℕ, Bool, ◌&&◌, nat_eq, nat_lt, is_none, map, length, List, [], ◌∷◌, ◌++◌, Option, Some, None}
use Rattle.ua_builtin.specs.declared.date_time.DateTime.{DateTime}
use Rattle.ua_builtin.specs.declared.node_id.NodeId.{NodeId}
use Rattle.ua_nodes.specs.Read.{read_answer, stamps_numbered}
use Rattle.ua_nodes.specs.Table.{Nodes, node_at}
use Rattle.ua_nodes.specs.Limit.{limited_answers, after_limited}
use Rattle.ua_nodes.specs.Write.{nodes_take}
use Rattle.ua_nodes.specs.declared.stamps.Stamps.{Stamps}
use Rattle.ua_nodes.specs.declared.stamps.Stamps.TheVariants.{Neither}
use Rattle.ua_services.specs.declared.response.Response.{Response}
use Rattle.ua_services.specs.declared.response.Response.TheVariants.{Read, Write}
use Rattle.ua_structures.specs.Plain.{read_response_of, write_response_of}
use Rattle.ua_structures.specs.declared.attribute.ReadRequest.{ReadRequest}
use Rattle.ua_structures.specs.declared.attribute.ReadValueId.{ReadValueId}
use Rattle.ua_structures.specs.declared.attribute.WriteRequest.{WriteRequest}
use Rattle.ua_opening.specs.declared.header.RequestHeader.{RequestHeader}
use Rattle.ua_structures.specs.declared.thin.ValueType.{ValueType}
use Rattle.ua_variant.specs.Data.{DataFields, DataValueData, VariantData, bare, valued}
use Rattle.ua_variant.specs.declared.values.DataValue.{DataValue}
use Rattle.ua_server.specs.Sessions.{good_header, session_reasons}
use Rattle.ua_server.specs.State.{State, is_activated, with_nodes}
use Rattle.ua_server.specs.Status.{bad_nothing_to_do, bad_too_many_operations, bad_timestamps_to_return_invalid, bad_max_age_invalid}

-- the items of an array, none of null
abbrev pub items_of : {A : Type 0} → Option (List A) → List A
items_of None = []
items_of (Some items) = items

-- the most items of a request
abbrev pub most_items : ℕ
most_items = 1000

-- the greatest MaxAge, as the bit pattern of its Double: that of -0, above which are the patterns
-- of the negative numbers, and of the NaNs that have the top bit
abbrev pub most_age : ℕ
most_age = 0x8000_0000_0000_0000

-- why the items are not looked at, by their number: there are none, or more than 1000
abbrev pub count_reasons : ℕ → List (ℕ × Bool)
count_reasons n = (bad_nothing_to_do, nat_eq n 0) ∷ (bad_too_many_operations, nat_lt most_items n) ∷ []

-- why a request with this many items under a session is rejected before they are looked at: for its
-- session, and then for their number
abbrev pub items_reasons : State → RequestHeader → ℕ → List (ℕ × Bool)
items_reasons s asking n = session_reasons s asking ++ count_reasons n

-- why a Read is rejected, in the order in which it is judged (OPC 10000-4, 5.11.2): for its
-- session, for the timestamps, for the age, and for the number of its items
abbrev pub read_reasons : State → ReadRequest → List (ℕ × Bool)
read_reasons s m =
    session_reasons s m.request_header
    ++ ((bad_timestamps_to_return_invalid, is_none (stamps_numbered m.timestamps_to_return))
    ∷ (bad_max_age_invalid, nat_lt most_age m.max_age.bits)
    ∷ count_reasons (length (items_of m.nodes_to_read)))

-- the timestamps that are requested; none if the number names none
abbrev pub stamps_or : Option Stamps → Stamps
stamps_or None = Neither
stamps_or (Some stamps) = stamps

-- the DataValue of the code that is for the data
abbrev pub data_value_with : Option VariantData → DataFields → DataValue
data_value_with v f = record {
  value = v;
  status = f.status;
  source_timestamp = f.source_timestamp;
  source_picoseconds = f.source_picoseconds;
  server_timestamp = f.server_timestamp;
  server_picoseconds = f.server_picoseconds;
}

abbrev pub value_from : DataValueData → DataValue
value_from (bare f) = data_value_with None f
value_from (valued v f) = data_value_with (Some v) f

-- the results of the items, each its own function of the nodes
abbrev pub read_answers : Nodes → List ReadValueId → Stamps → DateTime → List DataValue
read_answers nodes items stamps moment = map (λ item. value_from (read_answer (node_at nodes item.node_id) item stamps moment)) items

abbrev pub values_given : State → DateTime → ReadRequest → Response
values_given s moment m =
    Read (read_response_of (good_header moment m.request_header)
    (read_answers s.nodes (items_of m.nodes_to_read) (stamps_or (stamps_numbered m.timestamps_to_return)) moment))

-- the node that the NodeId names could take a value of the type now: none could before a session is
-- activated
abbrev pub takes_now : State → NodeId → ValueType → Bool
takes_now s id t = is_activated s.session && nodes_take s.nodes id t

-- why a Write is rejected, in the order in which it is judged (OPC 10000-4, 5.11.4): for its
-- session, and then for the number of its items
abbrev pub write_reasons : State → WriteRequest → List (ℕ × Bool)
write_reasons s m = items_reasons s m.request_header (length (items_of m.nodes_to_write))

-- the state with its nodes after the items of a Write, under the limit of memory if there is one
abbrev pub with_written : State → DateTime → WriteRequest → State
with_written s moment m = with_nodes s (after_limited s.memory_limit (items_of m.nodes_to_write) moment s.nodes)

abbrev pub statuses_given : State → DateTime → WriteRequest → Response
statuses_given s moment m = Write (write_response_of (good_header moment m.request_header) (limited_answers s.memory_limit s.nodes (items_of m.nodes_to_write)))
