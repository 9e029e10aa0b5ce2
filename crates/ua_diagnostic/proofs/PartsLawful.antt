-- The formats of parts are sound, and what the two tests of a value that can be written say.
use Rattle.std.specs.Prelude.{◌≡◌, ℕ, ◌≤◌, Bool, true, false, ◌&&◌, IsTrue, leb, Option, Some, None}
use Rattle.std.proofs.Common.{refl, arith}
use Rattle.std.proofs.lemmas.Grind.{common_steps}
use Rattle.ua_wire.specs.Format.{Flat, IsSound, most_levels}
use Rattle.ua_wire.proofs.Readers.{both_true, not_false}
use Rattle.ua_diagnostic.specs.Parts.{Optional, optional, optional_encodable, optional_canonical, unwritten}
use Rattle.ua_diagnostic.proofs.PartsRead.{exact_optional}

optional_canonical_encodes : {A : Type 0} (f : Flat A) → IsSound f → (b : Bool) (v : Option A) → IsTrue (optional_encodable f.encodable b v)
    → Optional f.encodes b v (optional_canonical f.canonical v)
optional_canonical_encodes f sound true None h = not_false h
optional_canonical_encodes f sound true (Some x) h = sound.canonical_encodes x h
optional_canonical_encodes f sound false None h = refl
optional_canonical_encodes f sound false (Some x) h = not_false h

pub sound_optional : {A : Type 0} {f : Flat A} (b : Bool) → IsSound f → IsSound (optional b f)
sound_optional {f = f} b sound = record {
  exact = exact_optional f.encodes f.decode b sound.exact;
  canonical_encodes = optional_canonical_encodes f sound b;
}

pub sound_unwritten : {A : Type 0} {f : Flat A} → IsSound f → IsSound (unwritten f)
sound_unwritten sound = record { exact = sound.exact; canonical_encodes = λ v h. not_false h }

-- ---- at most so many levels, and a test

pub fits_second : (d : ℕ) (b : Bool) → IsTrue (leb d most_levels && b) → b ≡ true
fits_second d b h = (both_true (leb d most_levels) b h).1

pub depth_first : (d : ℕ) (b : Bool) → IsTrue (leb d most_levels && b) → d ≤ most_levels
depth_first d b h = let l : leb d most_levels ≡ true = (both_true (leb d most_levels) b h).0 in Prim.grind (arith, common_steps)
