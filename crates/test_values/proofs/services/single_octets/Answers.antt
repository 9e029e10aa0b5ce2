use Rattle.std.proofs.Common.{◌≡◌, ◌≤◌, ◌+◌, ◌-◌, List, ℕ, [], ◌∷◌, ◌++◌, ap, arith, length, take, drop, length-append}
use Rattle.std.specs.List.{concat}
use Rattle.std.proofs.lemmas.List.{length-take}
use Rattle.std.proofs.lemmas.List.Folds.{concat-append}
use Rattle.test_values.proofs.services.single_octets.Goals as goal

pub loop-i-preserved : goal.loop-i-preserved
loop-i-preserved c =
    let parts : List (List ℕ) = c.loop-i.parts.items in
    let part : List ℕ = c.in_ok-slice.field-0 in
    let is : part ≡ take (c.loop-i.i + 1 - c.loop-i.i) (drop c.loop-i.i c.args.body.now) = c.in_ok-slice.ensures.ok in
    let one : length part ≤ 1 = omega (arith, ap length is, length-take (c.loop-i.i + 1 - c.loop-i.i) (drop c.loop-i.i c.args.body.now)) in
    let added : c.push.new.self.items ≡ parts ++ part ∷ [] = c.in_ok-push.ensures.items in
    omega (
      arith,
      one,
      ap (λ (t : List (List ℕ)). length (concat t)) added,
      ap length (concat-append parts (part ∷ [])),
      length-append (concat parts) (concat (part ∷ [])),
      length-append part [],
    )
