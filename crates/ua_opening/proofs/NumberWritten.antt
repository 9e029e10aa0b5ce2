-- The NodeId of an encoding in the form of four octets.
use Rattle.std.specs.Prelude.{◌≡◌, ◌<◌, ◌≤◌, ◌%◌, ◌/◌, ℕ, [], ◌∷◌, ◌++◌, Bool, true, false, cond, nat_lt}
use Rattle.std.proofs.Common.{refl, sym, ◌∙◌, ap, arith}
use Rattle.std.proofs.lemmas.Bool.{le-ltb, lt-ltb}
use Rattle.ua_wire.specs.Number.{number_octets}
use Rattle.ua_builtin.specs.NodeId.{node_id, in_form}
use Rattle.ua_opening.specs.Message.{standard}

-- by the tests of the shortest form
written_by : (n : ℕ) (small fits : Bool) → small ≡ false → fits ≡ true
    → number_octets 1 (cond small 0x00 (cond fits 0x01 0x02)) ++ (in_form (cond small 0x00 (cond fits 0x01 0x02))).canonical (standard n)
    ≡ 1 ∷ 0 ∷ n % 256 ∷ n / 256 % 256 ∷ []
unfolding number_octets
written_by n true fits p q = absurd cc
written_by n false false p q = absurd cc
written_by n false true p q = refl

pub number_written : (n : ℕ) → 256 ≤ n → n < 65536 → 1 ∷ 0 ∷ n % 256 ∷ n / 256 ∷ [] ≡ node_id.canonical (standard n)
unfolding node_id
number_written n large fits =
    let high : n / 256 ≡ n / 256 % 256 = omega arith in
    ap (λ (k : ℕ). 1 ∷ 0 ∷ n % 256 ∷ k ∷ []) high ∙ sym (written_by n (nat_lt n 256) (nat_lt n 65536) (le-ltb n 256 large) (lt-ltb n 65536 fits))
