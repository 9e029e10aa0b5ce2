-- A Write under a limit leaves memory within the limit, or no more than there was.
use Rattle.std.proofs.Common.{◌≡◌, ℕ, ◌+◌, ◌-◌, ◌<◌, ◌≤◌, max, Bool, true, false, ◌&&◌, cond, nat_lt, map}
use Rattle.std.proofs.Common.{List, [], ◌∷◌, Option, None, Some, is_none, refl, sym, ◌∙◌, ap, subst, arith}
use Rattle.std.specs.List.{IsDistinct}
use Rattle.std.specs.Map.{keys_of}
use Rattle.std.proofs.lemmas.Bool.{ltb-false}
use Rattle.std.proofs.lemmas.Map.{NonePasses}
use Rattle.ua_builtin.specs.Reasons.{first_reason}
use Rattle.ua_builtin.specs.declared.date_time.DateTime.{DateTime}
use Rattle.ua_builtin.specs.declared.node_id.NodeId.{NodeId}
use Rattle.ua_variant.specs.Data.{VariantData, null}
use Rattle.ua_structures.specs.declared.attribute.WriteValue.{WriteValue}
use Rattle.ua_nodes.specs.declared.node.Variable.{Variable}
use Rattle.ua_nodes.specs.Limit.{after_limited, given_memory, growth, items_within, nodes_memory, outgrows, room_after, room_left}
use Rattle.ua_nodes.specs.Memory.{value_memory}
use Rattle.ua_nodes.specs.Table.{Nodes, node_at, same_id}
use Rattle.ua_nodes.specs.Write.{after_write, is_good_for, last_good, later, content_or, write_item_reasons, written_by}
use Rattle.ua_nodes.proofs.Writes.{after_nothing, past_head}

-- ---- one node

-- how much more the value of an item takes than that of a node
abbrev more_of : Variable → WriteValue → ℕ
more_of v item = given_memory item.value.value - value_memory v.value

held_is : (o : Option VariantData) → value_memory (content_or o null) ≡ given_memory o
held_is None = refl
held_is (Some v) = refl

one_more : (v : Variable) (t : Bool) (item : WriteValue) (l : Option WriteValue) (moment : DateTime)
    → value_memory (written_by v (later (cond t (Some item) None) l) moment).value ≤ value_memory (written_by v l moment).value + cond t (more_of v item) 0
one_more v true item (Some x) moment = omega arith
one_more v false item (Some x) moment = omega arith
one_more v true item None moment = omega (arith, held_is item.value.value)
one_more v false item None moment = omega arith

-- how much an item makes a node grow
abbrev node_growth : NodeId × Variable → WriteValue → ℕ
node_growth node item = cond (is_good_for node item) (more_of node.1 item) 0

-- how much it makes all nodes grow
abbrev all_growth : Nodes → WriteValue → ℕ
all_growth [] item = 0
all_growth (node ∷ nodes) item = node_growth node item + all_growth nodes item

one_item : (item : WriteValue) (items : List WriteValue) (moment : DateTime) (nodes : Nodes)
    → nodes_memory (after_write (item ∷ items) moment nodes) ≤ nodes_memory (after_write items moment nodes) + all_growth nodes item
unfolding after_write
one_item item items moment [] = omega arith
one_item item items moment (node ∷ nodes) =
    let here = one_more node.1 (is_good_for node item) item (last_good node items) moment in
    let more = one_item item items moment nodes in
    omega (arith, here, more)

-- ---- the node that an item names

none_grows : (item : WriteValue) (nodes : Nodes) → NonePasses (same_id item.node_id) nodes → all_growth nodes item ≡ 0
none_grows item [] h = refl
none_grows item (node ∷ nodes) h =
    let apart = ap (λ (t : Bool). cond (t && is_none (first_reason (write_item_reasons node.1 item))) (more_of node.1 item) 0) h.0 in
    omega (arith, apart, none_grows item nodes h.1)

named_grows : (item : WriteValue) (nodes : Nodes) → IsDistinct same_id (keys_of nodes) → all_growth nodes item ≤ growth (node_at nodes item.node_id) item
unfolding IsDistinct
named_grows item [] d = omega arith
named_grows item (node ∷ nodes) d =
    by (same_id item.node_id node.0) refl (λ e. none_grows item nodes (past_head item.node_id node nodes d e)) (named_grows item nodes d.1)
  where
    by : (t : Bool) → same_id item.node_id node.0 ≡ t → (same_id item.node_id node.0 ≡ true → all_growth nodes item ≡ 0)
        → all_growth nodes item ≤ growth (node_at nodes item.node_id) item
        → cond (t && is_none (first_reason (write_item_reasons node.1 item))) (more_of node.1 item) 0 + all_growth nodes item
        ≤ growth (cond t (Some node.1) (node_at nodes item.node_id)) item
    by true e none more = omega (arith, none e)
    by false e none more = omega (arith, more)

-- ---- all items

abbrev total : Nodes → List WriteValue → ℕ
total nodes [] = 0
total nodes (item ∷ items) = growth (node_at nodes item.node_id) item + total nodes items

all_items : (items : List WriteValue) (moment : DateTime) (nodes : Nodes) → IsDistinct same_id (keys_of nodes)
    → nodes_memory (after_write items moment nodes) ≤ nodes_memory nodes + total nodes items
all_items [] moment nodes d = omega (arith, ap nodes_memory (after_nothing moment nodes))
all_items (item ∷ items) moment nodes d = omega (arith, one_item item items moment nodes, named_grows item nodes d, all_items items moment nodes d)

within : (room : ℕ) (nodes : Nodes) (items : List WriteValue) → total nodes (items_within room nodes items) ≤ room
within room nodes [] = omega arith
within room nodes (item ∷ items) = by (growth (node_at nodes item.node_id) item) refl (nat_lt room (growth (node_at nodes item.node_id) item)) refl
    (λ n. within n nodes items)
  where
    by : (more : ℕ) → growth (node_at nodes item.node_id) item ≡ more → (t : Bool) → nat_lt room more ≡ t
        → ((n : ℕ) → total nodes (items_within n nodes items) ≤ n)
        → total nodes (cond t (items_within (cond t room (room - more)) nodes items) (item ∷ items_within (cond t room (room - more)) nodes items)) ≤ room
    by more is true e rest = rest room
    by more is false e rest = omega (arith, is, ltb-false room more e, rest (room - more))

pub kept_within : (most : ℕ) (items : List WriteValue) (moment : DateTime) (nodes : Nodes) → IsDistinct same_id (keys_of nodes)
    → nodes_memory (after_limited (Some most) items moment nodes) ≤ max most (nodes_memory nodes)
kept_within most items moment nodes d =
    omega (arith, all_items (items_within (room_left most nodes) nodes items) moment nodes d, within (room_left most nodes) nodes items)
