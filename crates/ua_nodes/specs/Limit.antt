-- Writes under a limit of the memory that the values of all nodes may take. An item that would make
-- it exceed the limit is answered BadOutOfMemory and stores nothing (OPC 10000-4, 5.11.4).
use Rattle.std.specs.Prelude.{ℕ, ◌+◌, ◌-◌, Bool, true, false, cond, nat_eq, nat_lt, List, [], ◌∷◌, Option, None, Some, is_none}
use Rattle.ua_builtin.specs.Reasons.{first_reason}
use Rattle.ua_builtin.specs.declared.date_time.DateTime.{DateTime}
use Rattle.ua_builtin.specs.declared.status_code.StatusCode.{StatusCode}
use Rattle.ua_variant.specs.Data.{VariantData}
use Rattle.ua_structures.specs.declared.attribute.WriteValue.{WriteValue}
use Rattle.ua_nodes.specs.declared.node.Variable.{Variable}
use Rattle.ua_nodes.specs.Memory.{value_memory}
use Rattle.ua_nodes.specs.Status.{bad_out_of_memory}
use Rattle.ua_nodes.specs.Table.{Nodes, node_at}
use Rattle.ua_nodes.specs.Write.{after_write, write_answer, write_answers, write_item_reasons}

-- the memory of the values of the nodes
abbrev pub nodes_memory : Nodes → ℕ
nodes_memory [] = 0
nodes_memory (node ∷ nodes) = value_memory node.1.value + nodes_memory nodes

-- the memory of a value, if there is one
abbrev pub given_memory : Option VariantData → ℕ
given_memory None = 0
given_memory (Some v) = value_memory v

-- how many bytes more the value of an item takes than that of its node before the Write: none if the
-- item is rejected
abbrev pub growth : Option Variable → WriteValue → ℕ
growth None item = 0
growth (Some v) item = cond (is_none (first_reason (write_item_reasons v item))) (given_memory item.value.value - value_memory v.value) 0

-- the item grows by more than the room that is left
abbrev pub outgrows : ℕ → Option Variable → WriteValue → Bool
outgrows room v item = nat_lt room (growth v item)

-- the result of an item with this room left
abbrev pub answer_within : ℕ → Option Variable → WriteValue → StatusCode
answer_within room v item = cond (outgrows room v item) bad_out_of_memory (write_answer v item)

-- the room that an item leaves
abbrev pub room_after : ℕ → Option Variable → WriteValue → ℕ
room_after room v item = cond (outgrows room v item) room (room - growth v item)

-- the results of the items in order: each has the room that those before it leave
abbrev pub answers_within : ℕ → Nodes → List WriteValue → List StatusCode
answers_within room nodes [] = []
answers_within room nodes (item ∷ items) =
    let v = node_at nodes item.node_id in
    answer_within room v item ∷ answers_within (room_after room v item) nodes items

-- the items that do not outgrow the room that those before them leave
abbrev pub items_within : ℕ → Nodes → List WriteValue → List WriteValue
items_within room nodes [] = []
items_within room nodes (item ∷ items) =
    let v = node_at nodes item.node_id in
    let rest = items_within (room_after room v item) nodes items in
    cond (outgrows room v item) rest (item ∷ rest)

-- the room that the values of the nodes leave of a limit
abbrev pub room_left : ℕ → Nodes → ℕ
room_left most nodes = most - nodes_memory nodes

-- ---- with a limit or without one

-- the results of the items
abbrev pub limited_answers : Option ℕ → Nodes → List WriteValue → List StatusCode
limited_answers None nodes items = write_answers nodes items
limited_answers (Some most) nodes items = answers_within (room_left most nodes) nodes items

-- the items that have room
abbrev pub roomy_items : Option ℕ → Nodes → List WriteValue → List WriteValue
roomy_items None nodes items = items
roomy_items (Some most) nodes items = items_within (room_left most nodes) nodes items

-- the nodes after the items: as after those that have room
abbrev pub after_limited : Option ℕ → List WriteValue → DateTime → Nodes → Nodes
after_limited most items moment nodes = after_write (roomy_items most nodes items) moment nodes

-- ---- inside

-- the code is BadOutOfMemory
abbrev pub is_out_of_memory : StatusCode → Bool
is_out_of_memory code = nat_eq code.code 0x8003_0000

-- the first of these codes is BadOutOfMemory, if there is one
abbrev pub begins_refused : List StatusCode → Bool
begins_refused [] = false
begins_refused (code ∷ codes) = is_out_of_memory code

-- the codes after the first
abbrev pub codes_behind_first : List StatusCode → List StatusCode
codes_behind_first [] = []
codes_behind_first (code ∷ codes) = codes

-- the items whose results are not BadOutOfMemory
abbrev pub items_left : List WriteValue → List StatusCode → List WriteValue
items_left [] codes = []
items_left (item ∷ items) codes = cond (begins_refused codes) (items_left items (codes_behind_first codes)) (item ∷ items_left items (codes_behind_first codes))
