-- Which of the numbers that an end chose a recorded number is.
use Rattle.std.specs.Prelude.{ℕ, zero, suc, ◌==◌, nat_lt, Bool, true, false, ◌&&◌, List, [], ◌∷◌}
use Rattle.ua_judge.specs.declared.named.Named.{Named}

-- a name of this number that the other side had chosen before the end of a frame
abbrev pub is_known : ℕ → ℕ → Named → Bool
is_known number end name = (name.number == number) && nat_lt name.place end

-- counted on by an element before, which passes or not
abbrev pub counted_on : ℕ → Bool → ℕ
counted_on zero false = 0
counted_on zero true = 1
counted_on (suc n) passes = suc (suc n)

-- the last element that passes, counted from 1; 0 if none does
abbrev pub rank : {A : Type 0} → (A → Bool) → List A → ℕ
rank p [] = 0
rank p (x ∷ xs) = counted_on (rank p xs) (p x)
