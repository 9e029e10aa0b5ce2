-- A Write of what is kept of items, against a Write of the items themselves, under a limit.
use Rattle.std.proofs.Common.{◌≡◌, ℕ, ◌-◌, Bool, true, false, cond, nat_lt, map, List, [], ◌∷◌, Option, None, Some, refl, sym, ◌∙◌, ap}
use Rattle.std.specs.List.{IsDistinct}
use Rattle.std.specs.Map.{keys_of}
use Rattle.std.specs.Option.{is_none}
use Rattle.ua_builtin.specs.Reasons.{first_reason}
use Rattle.ua_builtin.specs.declared.date_time.DateTime.{DateTime}
use Rattle.ua_builtin.specs.declared.node_id.NodeId.{NodeId}
use Rattle.ua_builtin.specs.declared.status_code.StatusCode.{StatusCode}
use Rattle.ua_structures.specs.Thin.{thinned}
use Rattle.ua_structures.specs.declared.attribute.WriteValue.{WriteValue}
use Rattle.ua_structures.specs.declared.thin.ValueType.{ValueType}
use Rattle.ua_nodes.specs.declared.node.Variable.{Variable}
use Rattle.ua_nodes.specs.Limit.{after_limited, answers_within, given_memory, growth, items_within, limited_answers, outgrows, room_after, room_left}
use Rattle.ua_nodes.specs.Memory.{value_memory}
use Rattle.ua_nodes.specs.Status.{bad_out_of_memory}
use Rattle.ua_nodes.specs.Table.{Nodes, node_at, same_id}
use Rattle.ua_nodes.specs.Write.{after_write, nodes_take, variable_takes, write_answer, write_item_reasons}
use Rattle.ua_nodes.proofs.Thinned.{after_write-thinned, answer_by, same_item, same_reasons, write_answers-thinned}

growth_kept : (takes : NodeId → ValueType → Bool) (o : Option Variable) (item : WriteValue) → takes item.node_id ≡ variable_takes o
    → growth o (thinned takes item) ≡ growth o item
growth_kept takes None item is = refl
growth_kept takes (Some v) item is =
    ap (λ (rs : List (StatusCode × Bool)). cond (is_none (first_reason rs)) (given_memory (thinned takes item).value.value - value_memory v.value) 0)
    (same_reasons v item (takes item.node_id) is)
    ∙ by (is_none (first_reason (write_item_reasons v item))) refl
  where
    by : (t : Bool) → is_none (first_reason (write_item_reasons v item)) ≡ t
        → cond t (given_memory (thinned takes item).value.value - value_memory v.value) 0 ≡ cond t (given_memory item.value.value - value_memory v.value) 0
    by true good = ap (λ (i : WriteValue). given_memory i.value.value - value_memory v.value) (same_item v item (takes item.node_id) is good)
    by false good = refl

module _ (nodes : Nodes) where
  abbrev kept : WriteValue → WriteValue
  kept item = thinned (nodes_take nodes) item

  grows : (item : WriteValue) → growth (node_at nodes item.node_id) (kept item) ≡ growth (node_at nodes item.node_id) item
  grows item = growth_kept (nodes_take nodes) (node_at nodes item.node_id) item refl

  pub answers_within-thinned : (room : ℕ) (items : List WriteValue) → answers_within room nodes (map (thinned (nodes_take nodes)) items)
      ≡ answers_within room nodes items
  answers_within-thinned room [] = refl
  answers_within-thinned room (item ∷ items) =
      let o = node_at nodes item.node_id in
      ap (λ (n : ℕ). cond (nat_lt room n) bad_out_of_memory (write_answer o (kept item)) ∷ answers_within (cond (nat_lt room n) room (room - n)) nodes
      (map kept items)) (grows item)
      ∙ ap (λ (code : StatusCode). cond (outgrows room o item) bad_out_of_memory code ∷ answers_within (room_after room o item) nodes (map kept items))
      (answer_by (nodes_take nodes) o item refl)
      ∙ ap (λ (codes : List StatusCode). cond (outgrows room o item) bad_out_of_memory (write_answer o item) ∷ codes)
      (answers_within-thinned (room_after room o item) items)

  taken : (t : Bool) (item : WriteValue) (items : List WriteValue) → cond t (map kept items) (kept item ∷ map kept items)
      ≡ map kept (cond t items (item ∷ items))
  taken true item items = refl
  taken false item items = refl

  pub items_within-thinned : (room : ℕ) (items : List WriteValue) → items_within room nodes (map (thinned (nodes_take nodes)) items)
      ≡ map (thinned (nodes_take nodes)) (items_within room nodes items)
  items_within-thinned room [] = refl
  items_within-thinned room (item ∷ items) =
      let o = node_at nodes item.node_id in
      let behind : ℕ → List WriteValue = λ n. items_within (cond (nat_lt room n) room (room - n)) nodes (map kept items) in
      ap (λ (n : ℕ). cond (nat_lt room n) (behind n) (kept item ∷ behind n)) (grows item)
      ∙ ap (λ (rest : List WriteValue). cond (outgrows room o item) rest (kept item ∷ rest)) (items_within-thinned (room_after room o item) items)
      ∙ taken (outgrows room o item) item (items_within (room_after room o item) nodes items)

  pub limited_answers-thinned : (most : Option ℕ) (items : List WriteValue) → limited_answers most nodes (map (thinned (nodes_take nodes)) items)
      ≡ limited_answers most nodes items
  limited_answers-thinned None items = write_answers-thinned nodes items
  limited_answers-thinned (Some most) items = answers_within-thinned (room_left most nodes) items

  pub after_limited-thinned : IsDistinct same_id (keys_of nodes) → (most : Option ℕ) (items : List WriteValue) (moment : DateTime)
      → after_limited most (map (thinned (nodes_take nodes)) items) moment nodes ≡ after_limited most items moment nodes
  after_limited-thinned distinct None items moment = after_write-thinned nodes distinct items moment
  after_limited-thinned distinct (Some most) items moment =
      ap (λ (is : List WriteValue). after_write is moment nodes) (items_within-thinned (room_left most nodes) items)
      ∙ after_write-thinned nodes distinct (items_within (room_left most nodes) nodes items) moment
