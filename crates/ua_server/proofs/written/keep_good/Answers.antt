use Rattle.std.proofs.Common.{◌≡◌, ◌++◌, ◌∷◌, [], List, length, refl, sym, ◌∙◌, ap, append-nil, arith}
use Rattle.std.specs.Vec.Iter.{into_iter_items}
use Rattle.ua_structures.specs.declared.attribute.WriteValue.{WriteValue}
use Rattle.ua_server.specs.Stored.{good_items}
use Rattle.ua_server.proofs.Stores.{kept-on}
use Rattle.ua_server.proofs.written.keep_good.Goals as goal

nothing-left : {X : Type 0} (l : List X) → length l ≡ 0 → l ≡ []
nothing-left [] h = refl
nothing-left (x ∷ xs) h = absurd (omega arith)

pub loop-item-preserved : goal.loop-item-preserved
loop-item-preserved c =
    let at = c.loop-item in
    let rest = into_iter_items c.next.new.self in
    let item = c.in-Some.item in
    let steps : into_iter_items at.item-iterator ≡ item ∷ rest = c.in-Some.ensures.steps.0 in (
      kept-on at.good.items c.push_if.new.good.items rest item at.codes.now c.first_code-is_good.result.1.now c.first_code-is_good.result.0
          c.in_ok-push_if.ensures c.first_code-is_good.ensures.good c.first_code-is_good.ensures.rest
          ∙ (ap (λ (is : List WriteValue). at.good.items ++ good_items is at.codes.now) (sym steps) ∙ at.invariant.0),
      (let was = at.invariant.1 in let gone = c.in-Some.ensures.steps.1 in let short = ap length steps in omega arith),
    )

pub returns : goal.returns
returns c =
    let at = c.loop-item in
    let empty : into_iter_items at.item-iterator ≡ [] = nothing-left (into_iter_items at.item-iterator) (sym at.invariant.1 ∙ c.in-None.ensures.steps.0) in
    sym (append-nil at.good.items) ∙ (ap (λ (is : List WriteValue). at.good.items ++ good_items is at.codes.now) (sym empty) ∙ at.invariant.0)
