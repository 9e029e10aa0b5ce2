-- Writes under a limit, one item at a time.
use Rattle.std.proofs.Common.{◌≡◌, ℕ, zero, suc, ◌+◌, ◌-◌, ◌≤◌, min, Bool, true, false, cond, List, []}
use Rattle.std.proofs.Common.{◌∷◌, ◌++◌, take, Option, None, Some, refl, sym, ◌∙◌, ap, append_assoc, arith}
use Rattle.std.specs.List.{slice_get}
use Rattle.ua_builtin.specs.Reasons.{first_reason}
use Rattle.ua_builtin.specs.declared.date_time.DateTime.{DateTime}
use Rattle.ua_builtin.specs.declared.node_id.NodeId.{NodeId}
use Rattle.ua_builtin.specs.declared.status_code.StatusCode.{StatusCode}
use Rattle.ua_structures.specs.declared.attribute.WriteValue.{WriteValue}
use Rattle.ua_nodes.specs.declared.node.Variable.{Variable}
use Rattle.ua_nodes.specs.Limit.{answers_within, begins_refused, codes_behind_first, is_out_of_memory}
use Rattle.ua_nodes.specs.Limit.{items_left, items_within, nodes_memory, outgrows, room_after}
use Rattle.ua_nodes.specs.Memory.{value_memory}
use Rattle.ua_nodes.specs.Status.{bad_attribute_id_invalid, bad_not_writable, bad_out_of_memory, bad_type_mismatch, bad_write_not_supported}
use Rattle.ua_nodes.specs.Table.{Nodes, node_at}
use Rattle.ua_nodes.specs.Write.{after_item, after_write, good_or, write_answer, write_item_reasons}
use Rattle.ua_nodes.proofs.Writes.{after_first}

-- ---- the memory of the nodes

nodes_next : (nodes : Nodes) (i : ℕ) (node : NodeId × Variable) → slice_get nodes i ≡ Some node
    → nodes_memory (take (suc i) nodes) ≡ nodes_memory (take i nodes) + value_memory node.1.value
nodes_next [] i node e = absurd cc
nodes_next (x ∷ nodes) zero node e = let same : x ≡ node = cc in omega (arith, ap (λ (n : NodeId × Variable). value_memory n.1.value) same)
nodes_next (x ∷ nodes) (suc i) node e = omega (arith, nodes_next nodes i node e)

pub nodes_after : (nodes : Nodes) (i : ℕ) (node : NodeId × Variable) → slice_get nodes i ≡ Some node
    → nodes_memory (take (i + 1) nodes) ≡ nodes_memory (take i nodes) + value_memory node.1.value
nodes_after nodes i node e = let next : i + 1 ≡ suc i = omega arith in ap (λ (n : ℕ). nodes_memory (take n nodes)) next ∙ nodes_next nodes i node e

-- the room by what was measured
pub room_is : (most held : ℕ) → most ≤ 18446744073709551615 → most - min held 18446744073709551615 ≡ most - held
room_is most held h = omega (arith, h)

-- ---- no item is refused with this code for another reason

abbrev IsOther : Option StatusCode → Type 0
IsOther o = (code : StatusCode) → o ≡ Some code → is_out_of_memory code ≡ false

where_other : (test : Bool) (code : StatusCode) (rest : Option StatusCode) → is_out_of_memory code ≡ false → IsOther rest → IsOther (cond test (Some code) rest)
where_other true code rest here more c e = let is : code ≡ c = cc in ap is_out_of_memory (sym is) ∙ here
where_other false code rest here more c e = more c e

no_other : IsOther None
no_other c e = absurd cc

reasons_other : (v : Variable) (item : WriteValue) → IsOther (first_reason (write_item_reasons v item))
reasons_other v item =
    where_other _ bad_attribute_id_invalid _ refl (
    where_other _ bad_not_writable _ refl (
    where_other _ bad_write_not_supported _ refl (
    where_other _ bad_type_mismatch _ refl no_other)))

good_or_other : (o : Option StatusCode) → IsOther o → is_out_of_memory (good_or o) ≡ false
good_or_other None h = refl
good_or_other (Some code) h = h code refl

pub other_answer : (o : Option Variable) (item : WriteValue) → is_out_of_memory (write_answer o item) ≡ false
other_answer None item = refl
other_answer (Some v) item = good_or_other (first_reason (write_item_reasons v item)) (reasons_other v item)

-- ---- the items that are left by their results are those that have room

pub left_within : (room : ℕ) (nodes : Nodes) (items : List WriteValue) → items_left items (answers_within room nodes items) ≡ items_within room nodes items
left_within room nodes [] = refl
left_within room nodes (item ∷ items) =
    by (outgrows room (node_at nodes item.node_id) item) (write_answer (node_at nodes item.node_id) item) (other_answer (node_at nodes item.node_id) item)
    (left_within (room_after room (node_at nodes item.node_id) item) nodes items)
  where
    by : (t : Bool) (code : StatusCode) {were are : List WriteValue} → is_out_of_memory code ≡ false → were ≡ are
        → cond (is_out_of_memory (cond t bad_out_of_memory code)) were (item ∷ were) ≡ cond t are (item ∷ are)
    by true code other same = same
    by false code {were = were} other same = ap (λ (t : Bool). cond t were (item ∷ were)) other ∙ ap (λ (l : List WriteValue). item ∷ l) same

-- ---- a loop over the items and their results

pub judged_on : (done new rest more : List StatusCode) (code own : StatusCode) → new ≡ done ++ code ∷ [] → code ≡ own → more ≡ rest
    → done ++ own ∷ rest ≡ new ++ more
judged_on done new rest more code own e f g =
    ap (λ (t : StatusCode). done ++ t ∷ rest) (sym f) ∙ sym (append_assoc done (code ∷ []) rest)
    ∙ ap (λ (t : List StatusCode). t ++ rest) (sym e) ∙ ap (λ (t : List StatusCode). new ++ t) (sym g)

-- one item more is stored, or not
pub stored_on : (item : WriteValue) (rest : List WriteValue) (codes behind : List StatusCode) (moment : DateTime) (was is : Nodes) (refused : Bool)
    → refused ≡ begins_refused codes → behind ≡ codes_behind_first codes → is ≡ cond refused was (after_item item moment was)
    → after_write (items_left (item ∷ rest) codes) moment was ≡ after_write (items_left rest behind) moment is
stored_on item rest codes behind moment was is refused tells left stands =
    ap (λ (t : Bool). after_write (cond t (items_left rest (codes_behind_first codes)) (item ∷ items_left rest (codes_behind_first codes))) moment was)
    (sym tells)
    ∙ ap (λ (cs : List StatusCode). after_write (cond refused (items_left rest cs) (item ∷ items_left rest cs)) moment was) (sym left)
    ∙ by refused (items_left rest behind)
    ∙ ap (λ (n : Nodes). after_write (items_left rest behind) moment n) (sym stands)
  where
    by : (t : Bool) (items : List WriteValue) → after_write (cond t items (item ∷ items)) moment was ≡ after_write items moment
        (cond t was (after_item item moment was))
    by true items = refl
    by false items = after_first item items moment was
