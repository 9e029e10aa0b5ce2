-- Bits of masks, and that parts which a mask flags are encoded as the relation by cases has it.
use Rattle.std.specs.Prelude.{◌≡◌, ◌<◌, ◌*◌, ◌/◌, ◌%◌, ◌^◌, ℕ, zero, suc, List, Bool, true, false, IsTrue, Option, Some, None, not, nat_eq, eqb, is_some}
use Rattle.std.proofs.Common.{refl, ap, ◌∙◌, arith}
use Rattle.std.proofs.lemmas.Bool.{ne_eqb}
use Rattle.std.proofs.lemmas.Nat.{pow_pos}
use Rattle.std.proofs.lemmas.Nat.Bits.{and_pow}
use Rattle.ua_wire.specs.Format.{Flat, IsSound}
use Rattle.ua_wire.specs.Join.{only}
use Rattle.ua_wire.specs.Counted.{text}
use Rattle.ua_wire.proofs.Readers.{not_false}
use Rattle.ua_wire.proofs.Lawfulness.{sound_chosen, sound_only}
use Rattle.ua_wire.proofs.CountedLawful.{sound_text}
use Rattle.ua_builtin.specs.Flags.{has, flag_bit, flagged, flagged_text, is_null, EncodesFlagged}

-- ---- bits

-- a bit of a number, by division
times_bit : (r p : ℕ) → r < 2 → 0 < p → not (nat_eq (r * p) 0) ≡ eqb r 1
times_bit zero p h k = let e : 0 * p ≡ 0 = omega arith in ap (λ (x : ℕ). not (nat_eq x 0)) e
times_bit (suc zero) p h k = ap not (ne_eqb (1 * p) 0 (λ e. absurd (omega (arith, k))))
times_bit (suc (suc r)) p h k = absurd (omega arith)

pub has_bit : (m k : ℕ) → has m (2 ^ k) ≡ eqb (m / 2 ^ k % 2) 1
has_bit m k = ap (λ (x : ℕ). not (nat_eq x 0)) (and_pow m k) ∙ times_bit (m / 2 ^ k % 2) (2 ^ k) (omega arith) (pow_pos k)

flag_times : (r p : ℕ) → r < 2 → flag_bit p (eqb r 1) ≡ r * p
flag_times zero p h = omega arith
flag_times (suc zero) p h = omega arith
flag_times (suc (suc r)) p h = absurd (omega arith)

-- what a flag adds to its mask
pub flag_has : (m k : ℕ) → flag_bit (2 ^ k) (has m (2 ^ k)) ≡ m / 2 ^ k % 2 * 2 ^ k
flag_has m k = ap (flag_bit (2 ^ k)) (has_bit m k) ∙ flag_times (m / 2 ^ k % 2) (2 ^ k) (omega arith)

-- ---- flagged parts

pub sound_flagged : {A : Type 0} (f : Flat A) (absent : A) (is : A → Bool) → ((v : A) → IsTrue (is v) → v ≡ absent) → IsSound f → (set : Bool)
    → IsSound (flagged f absent is set)
sound_flagged f absent is same sound set = sound_chosen set f (only absent is) sound (sound_only absent is same)

pub null_is : (v : Option (List ℕ)) → IsTrue (is_null v) → v ≡ None
null_is None h = refl
null_is (Some v) h = not_false h

pub sound_flagged_text : (set : Bool) → IsSound (flagged_text set)
sound_flagged_text = sound_flagged text None is_null null_is sound_text

pub text_there : (set : Bool) (v : Option (List ℕ)) (b : List ℕ) → EncodesFlagged set v b → (flagged_text set).encodes v b
text_there true v b h = h
text_there false v b h = h

pub text_back : (set : Bool) (v : Option (List ℕ)) (b : List ℕ) → (flagged_text set).encodes v b → EncodesFlagged set v b
text_back true v b h = h
text_back false v b h = h

-- what is written for a text that is flagged where it isn't null
pub text_written : (v : Option (List ℕ)) → IsTrue ((flagged_text (is_some v)).encodable v)
    → EncodesFlagged (is_some v) v ((flagged_text (is_some v)).canonical v)
text_written v h = text_back (is_some v) v ((flagged_text (is_some v)).canonical v) ((sound_flagged_text (is_some v)).canonical_encodes v h)
