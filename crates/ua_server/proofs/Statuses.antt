-- The answers to the items of a Write can be written.
use Rattle.std.specs.Prelude.{◌≡◌, ℕ, suc, List, [], ◌∷◌, length, Bool, true, false, cond, IsTrue, Option, Some, None}
use Rattle.std.specs.List.{list_all}
use Rattle.std.proofs.Common.{refl, sym, ◌∙◌, ap}
use Rattle.ua_builtin.specs.Reasons.{first_reason}
use Rattle.ua_builtin.specs.Status.{status_code}
use Rattle.ua_builtin.specs.declared.status_code.StatusCode.{StatusCode}
use Rattle.ua_nodes.proofs.Fits.{both_are}
use Rattle.ua_nodes.specs.Limit.{answer_within, answers_within, limited_answers, outgrows, room_after, room_left}
use Rattle.ua_nodes.specs.Status.{bad_attribute_id_invalid, bad_not_writable, bad_out_of_memory, bad_write_not_supported, bad_type_mismatch}
use Rattle.ua_nodes.specs.Table.{Nodes, node_at}
use Rattle.ua_nodes.specs.Write.{good_or, write_item_reasons, write_answer, write_answers}
use Rattle.ua_nodes.specs.declared.node.Variable.{Variable}
use Rattle.ua_structures.specs.declared.attribute.WriteValue.{WriteValue}

-- a code that is given can be written
abbrev CodeFits : Option StatusCode → Type 0
CodeFits o = (code : StatusCode) → o ≡ Some code → status_code.encodable code ≡ true

where_fits : (test : Bool) (code : StatusCode) (rest : Option StatusCode) → status_code.encodable code ≡ true → CodeFits rest
    → CodeFits (cond test (Some code) rest)
where_fits true code rest here more c e = let is : code ≡ c = cc in ap status_code.encodable (sym is) ∙ here
where_fits false code rest here more c e = more c e

no_code : CodeFits None
no_code c e = absurd cc

reasons_fit : (v : Variable) (item : WriteValue) → CodeFits (first_reason (write_item_reasons v item))
unfolding status_code
reasons_fit v item =
    where_fits _ bad_attribute_id_invalid _ refl (
    where_fits _ bad_not_writable _ refl (
    where_fits _ bad_write_not_supported _ refl (
    where_fits _ bad_type_mismatch _ refl no_code)))

good_or_fits : (o : Option StatusCode) → CodeFits o → status_code.encodable (good_or o) ≡ true
unfolding status_code
good_or_fits None h = refl
good_or_fits (Some code) h = h code refl

answer_fits : (o : Option Variable) (item : WriteValue) → status_code.encodable (write_answer o item) ≡ true
unfolding status_code
answer_fits None item = refl
answer_fits (Some v) item = good_or_fits (first_reason (write_item_reasons v item)) (reasons_fit v item)

all_fit : (nodes : Nodes) (items : List WriteValue) → IsTrue (list_all status_code.encodable (write_answers nodes items))
all_fit nodes [] = refl
all_fit nodes (item ∷ items) = both_are (status_code.encodable (write_answer (node_at nodes item.node_id) item)) _
    (answer_fits (node_at nodes item.node_id) item) (all_fit nodes items)

all_count : (nodes : Nodes) (items : List WriteValue) → length (write_answers nodes items) ≡ length items
all_count nodes [] = refl
all_count nodes (item ∷ items) = ap suc (all_count nodes items)

-- ---- under a limit

either_fits : (t : Bool) (code : StatusCode) → status_code.encodable code ≡ true → status_code.encodable (cond t bad_out_of_memory code) ≡ true
unfolding status_code
either_fits true code h = refl
either_fits false code h = h

within_fit : (room : ℕ) (nodes : Nodes) (items : List WriteValue) → IsTrue (list_all status_code.encodable (answers_within room nodes items))
within_fit room nodes [] = refl
within_fit room nodes (item ∷ items) =
    let v = node_at nodes item.node_id in
    both_are (status_code.encodable (answer_within room v item)) _ (either_fits (outgrows room v item) (write_answer v item) (answer_fits v item))
    (within_fit (room_after room v item) nodes items)

within_count : (room : ℕ) (nodes : Nodes) (items : List WriteValue) → length (answers_within room nodes items) ≡ length items
within_count room nodes [] = refl
within_count room nodes (item ∷ items) = ap suc (within_count (room_after room (node_at nodes item.node_id) item) nodes items)

pub answers_fit : (most : Option ℕ) (nodes : Nodes) (items : List WriteValue) → IsTrue (list_all status_code.encodable (limited_answers most nodes items))
answers_fit None nodes items = all_fit nodes items
answers_fit (Some most) nodes items = within_fit (room_left most nodes) nodes items

pub answers_count : (most : Option ℕ) (nodes : Nodes) (items : List WriteValue) → length (limited_answers most nodes items) ≡ length items
answers_count None nodes items = all_count nodes items
answers_count (Some most) nodes items = within_count (room_left most nodes) nodes items
