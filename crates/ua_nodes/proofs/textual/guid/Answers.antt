use Rattle.std.proofs.Common.{◌≡◌, ◌↔◌, ℕ, List, Option, Some, None, Result, Ok, Err, IfOk, Bool, false, cond, true, length, refl, sym, ◌∙◌, ap, eq-eqb}
use Rattle.std.specs.Result.{IsOk, result_ok}
use Rattle.uuid.specs.Text.{parsed}
use Rattle.ua_nodes.specs.ValueText.{guid_denoted}
use Rattle.ua_nodes.proofs.textual.guid.Goals as goal

ok_is : {E : Type 0} (p : Option (List ℕ)) (r : Result (List ℕ) E) → (IsOk r ↔ ((u : List ℕ) × (p ≡ Some u))) → IfOk r (λ u. Some u ≡ p) → result_ok r ≡ p
ok_is p (Ok u) h e = e
ok_is None (Err x) h e = refl
ok_is (Some u) (Err x) h e = let t : false ≡ true = h.1 (u, refl) in absurd cc

pub returns : goal.returns
unfolding guid_denoted
returns c =
    let text = c.args.text.now in
    c.ok.ensures.value ∙ ok_is (parsed text) c.parse_str.result c.parse_str.ensures.ok c.parse_str.ensures.bytes
    ∙ sym (ap (λ (t : Bool). cond t (parsed text) None) (eq-eqb (length text) 36 c.if-text-ne36.false))
