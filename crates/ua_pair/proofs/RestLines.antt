-- The last line of a stream.
use Rattle.std.proofs.Common.{◌≡◌, ◌≢◌, ℕ, ◌++◌, [], ◌∷◌, codes, refl, arith}
use Rattle.std.proofs.lemmas.Bool.Decides.{nat_tests}
use Rattle.std.specs.Fmt.{decimal}
use Rattle.ua_pair.specs.Lines.{rest_line}

pub rest_line-end : (place : ℕ) → rest_line place 0 ≡ codes "end " ++ (decimal place ++ 10 ∷ [])
unfolding rest_line
rest_line-end place = refl

pub rest_line-rest : (place left : ℕ) → left ≢ 0 → rest_line place left ≡ codes "rest " ++ (decimal left ++ 10 ∷ [])
unfolding rest_line
rest_line-rest place left some = grind (arith, nat_tests)
