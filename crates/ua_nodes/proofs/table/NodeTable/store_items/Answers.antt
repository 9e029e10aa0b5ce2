use Rattle.std.proofs.Common.{◌≡◌, ◌∷◌, [], List, length, refl, sym, ◌∙◌, ap, arith}
use Rattle.std.specs.Vec.Iter.{into_iter_items}
use Rattle.ua_structures.specs.declared.attribute.WriteValue.{WriteValue}
use Rattle.ua_nodes.specs.Limit.{items_left}
use Rattle.ua_nodes.specs.Write.{after_write}
use Rattle.ua_nodes.proofs.Limits.{stored_on}
use Rattle.ua_nodes.proofs.Writes.{after_nothing}
use Rattle.ua_nodes.proofs.table.NodeTable.store_items.Goals as goal

nothing_left : {X : Type 0} (l : List X) → length l ≡ 0 → l ≡ []
nothing_left [] h = refl
nothing_left (x ∷ xs) h = absurd (omega arith)

pub loop-item-preserved : goal.loop-item-preserved
loop-item-preserved c =
    let at = c.loop-item in
    let rest = into_iter_items c.next.new.self in
    let item = c.in-Some.item in
    let steps : into_iter_items at.item-iterator ≡ item ∷ rest = c.in-Some.ensures.steps.0 in (
      at.invariant.0 ∙ ap (λ (is : List WriteValue). after_write (items_left is at.rest.now) c.args.moment at.self) steps
          ∙ stored_on item rest at.rest.now c.first_refused-refused.result.1.now c.args.moment at.self c.write_unless.new.self c.first_refused-refused.result.0
          c.first_refused-refused.ensures.refused c.first_refused-refused.ensures.rest c.write_unless.ensures,
      (let was = at.invariant.1 in let gone = c.in-Some.ensures.steps.1 in let short = ap length steps in omega arith),
    )

pub returns : goal.returns
returns c =
    let at = c.loop-item in
    let empty : into_iter_items at.item-iterator ≡ [] = nothing_left (into_iter_items at.item-iterator) (sym at.invariant.1 ∙ c.in-None.ensures.steps.0) in
    sym (at.invariant.0 ∙ ap (λ (is : List WriteValue). after_write (items_left is at.rest.now) c.args.moment at.self) empty
    ∙ after_nothing c.args.moment at.self)
