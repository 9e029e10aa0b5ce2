-- What a Write stores (OPC 10000-4, 5.11.4).
use Rattle.std.specs.Prelude.{ℕ, nat_eq, Bool, false, cond, List, [], ◌∷◌, Option, None, Some, Result, Ok, Err}
use Rattle.std.specs.List.{concat, filter}
use Rattle.ua_builtin.specs.Reasons.{first_reason}
use Rattle.ua_builtin.specs.declared.status_code.StatusCode.{StatusCode}
use Rattle.ua_nodes.specs.Limit.{roomy_items}
use Rattle.ua_nodes.specs.Table.{Nodes, node_at}
use Rattle.ua_nodes.specs.Write.{write_answer}
use Rattle.ua_services.specs.Request.{request_read}
use Rattle.ua_services.specs.declared.fault.RequestFault.{RequestFault}
use Rattle.ua_services.specs.declared.request.Request.{Request}
use Rattle.ua_services.specs.declared.request.Request.TheVariants.{Write}
use Rattle.ua_services.specs.declared.response.Response.{Response}
use Rattle.ua_services.specs.declared.response.Response.TheVariants.{Write as WriteAnswer}
use Rattle.ua_structures.specs.declared.attribute.WriteValue.{WriteValue}
use Rattle.ua_server.specs.Attributes.{items_of, write_reasons}
use Rattle.ua_server.specs.State.{State}

-- ---- the items of a Write that are stored

-- the operation succeeded
abbrev pub is_good : StatusCode → Bool
is_good code = nat_eq code.code 0

-- an item of a Write that has room under the limit of memory is stored exactly if its result is
-- Good; it is judged by the nodes before the Write
abbrev pub is_stored : Nodes → WriteValue → Bool
is_stored nodes item = is_good (write_answer (node_at nodes item.node_id) item)

-- the items that are stored, in the order of the Write
abbrev pub stored_items : Option ℕ → Nodes → List WriteValue → List WriteValue
stored_items most nodes items = filter (is_stored nodes) (roomy_items most nodes items)

-- none of a Write that is rejected as a whole
abbrev pub stored_unless_refused : Option ℕ → List WriteValue → List WriteValue
stored_unless_refused None items = items
stored_unless_refused (Some code) items = []

-- what a request stores; none but a Write stores anything
abbrev pub stored_by : State → Request → List WriteValue
stored_by s (Write m) = stored_unless_refused (first_reason (write_reasons s m)) (stored_items s.memory_limit s.nodes (items_of m.nodes_to_write))
stored_by s m = []

-- what bytes store by what they are decoded as
abbrev pub stored_as : State → Result Request RequestFault → List WriteValue
stored_as s (Ok m) = stored_by s m
stored_as s (Err fault) = []

-- what the message with these bytes stores
abbrev pub stored_of : State → List ℕ → List WriteValue
stored_of s octets = stored_as s (request_read octets)

-- ---- inside

-- the results of a Write, if the response is that to one
abbrev pub results_of : Response → Option (List StatusCode)
results_of (WriteAnswer m) = m.results
results_of m = None

-- the items of a Write; none of another request, or of what is no request
abbrev pub items_written : Result Request RequestFault → List WriteValue
items_written (Ok (Write m)) = items_of m.nodes_to_write
items_written r = []

-- the first of these codes is Good, if there is one
abbrev pub begins_good : List StatusCode → Bool
begins_good [] = false
begins_good (code ∷ codes) = is_good code

-- the codes after the first
abbrev pub behind_code : List StatusCode → List StatusCode
behind_code [] = []
behind_code (code ∷ codes) = codes

-- the items whose results are Good: each result is that of the item at its place
abbrev pub good_items : List WriteValue → List StatusCode → List WriteValue
good_items [] codes = []
good_items (item ∷ items) codes = cond (begins_good codes) (item ∷ good_items items (behind_code codes)) (good_items items (behind_code codes))

-- the items of a message that is kept
abbrev pub items_kept : Option (List (List ℕ)) → List WriteValue
items_kept None = []
items_kept (Some parts) = items_written (request_read (concat parts))
