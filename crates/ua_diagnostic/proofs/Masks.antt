-- The mask that a writer sets announces just the fields that are there, flag by flag.
use Rattle.std.specs.Prelude.{◌≡◌, ℕ, ◌+◌, ◌*◌, ◌/◌, ◌%◌, ◌^◌, ◌≤◌, Bool, true, false, eqb, Option, Some, None, is_some}
use Rattle.std.proofs.Common.{refl, ap, ◌∙◌, arith}
use Rattle.ua_builtin.specs.Flags.{has, flag_bit}
use Rattle.ua_builtin.proofs.FlagBits.{has_bit}
use Rattle.ua_diagnostic.specs.Parts.{there, optional_encodable, optional_fits}

pub bit_is : {A : Type 0} (k : ℕ) (o : Option A) → flag_bit k (is_some o) ≡ k * there o
bit_is k None = omega arith
bit_is k (Some x) = omega arith

pub there_within : {A : Type 0} (o : Option A) → there o ≤ 1
there_within None = omega arith
there_within (Some x) = omega arith

eqb_there : {A : Type 0} (o : Option A) → eqb (there o) 1 ≡ is_some o
eqb_there None = refl
eqb_there (Some x) = refl

-- the bit k of the mask m is whether there is a value
pub flag_there : {A : Type 0} (k m : ℕ) (o : Option A) → m / 2 ^ k % 2 ≡ there o → has m (2 ^ k) ≡ is_some o
flag_there k m o e = has_bit m k ∙ ap (λ (r : ℕ). eqb r 1) e ∙ eqb_there o

pub optional_at : {A : Type 0} (t : A → Bool) (b : Bool) (o : Option A) → b ≡ is_some o → optional_encodable t b o ≡ optional_fits t o
optional_at t true None e = absurd cc
optional_at t true (Some x) e = refl
optional_at t false None e = refl
optional_at t false (Some x) e = absurd cc

-- six bits of a number
pub bits_of : (m a b c d e f : ℕ) → m ≡ a + 2 * b + 4 * c + 8 * d + 16 * e + 32 * f → a ≤ 1 → b ≤ 1 → c ≤ 1 → d ≤ 1 → e ≤ 1 → f ≤ 1
    → (m / 1 % 2 ≡ a) × (m / 2 % 2 ≡ b) × (m / 4 % 2 ≡ c) × (m / 8 % 2 ≡ d) × (m / 16 % 2 ≡ e) × (m / 32 % 2 ≡ f) × (m ≤ 63)
bits_of m a b c d e f h p q r s t u = (omega arith, omega arith, omega arith, omega arith, omega arith, omega arith, omega arith)
