-- The reader of DiagnosticInfo is exact, at each depth.
use Rattle.std.specs.Prelude.{◌≡◌, ℕ, zero, suc, ◌+◌, ◌-◌, ◌<◌, ◌≤◌, Bool, true, false, IsTrue, leb, List, [], ◌++◌, Option, Some, None}
use Rattle.std.proofs.Common.{refl, sym, subst, ap, append-nil, arith}
use Rattle.std.specs.Int.{w32}
use Rattle.ua_wire.specs.Exact.{Exact, ◌>>=◌}
use Rattle.ua_wire.specs.Format.{IsSound, Within}
use Rattle.ua_wire.proofs.Lawfulness.{sound_made, sound_both}
use Rattle.ua_wire.proofs.ScalarsLawful.{sound_signed}
use Rattle.ua_builtin.specs.Flags.{has}
use Rattle.ua_builtin.proofs.FlagBits.{sound_flagged_text}
use Rattle.ua_builtin.proofs.PlainLawful.{sound_status_code}
use Rattle.ua_diagnostic.specs.Parts.{when, Joins, IsOctet, Optional, optional_read}
use Rattle.ua_diagnostic.proofs.PartsRead.{exact_octet, exact_then, exact_map, exact_as, exact_when, exact_optional, nil_behind, exact_none}
use Rattle.ua_diagnostic.proofs.PartsLawful.{sound_optional}
use Rattle.ua_diagnostic.specs.Diagnostic.{DiagnosticFields, DiagnosticData, innermost, around, diagnostic_within}
use Rattle.ua_diagnostic.specs.Diagnostic.{diagnostic_depth, diagnostic_fields, EncodesDiagnostic, diagnostic_step, diagnostic_at}

pub sound_diagnostic_fields : (m : ℕ) → IsSound (diagnostic_fields m)
unfolding diagnostic_fields
sound_diagnostic_fields m =
    sound_made _ _ (λ f. refl)
    (sound_both (sound_optional (has m 1) (sound_signed w32))
    (sound_both (sound_optional (has m 2) (sound_signed w32))
    (sound_both (sound_optional (has m 8) (sound_signed w32))
    (sound_both (sound_optional (has m 4) (sound_signed w32))
    (sound_both (sound_flagged_text (has m 16)) (sound_optional (has m 32) sound_status_code))))))

-- of the depth n at most
abbrev pub Shallow : ℕ → DiagnosticData → List ℕ → Type 0
Shallow n = Within EncodesDiagnostic diagnostic_depth n

-- behind the mask m
abbrev Body : ℕ → ℕ → DiagnosticData → List ℕ → Type 0
Body n m y b = IsTrue (leb m 127)
    × ((f : DiagnosticFields) × Joins ((diagnostic_fields m).encodes f) (λ c. (i : Option DiagnosticData) × (y ≡ diagnostic_within i f)
    × Optional (Shallow n) (has m 64) i c) b)

body : (n m : ℕ) → Exact (Shallow n) (diagnostic_at n)
    → Exact (Body n m)
    (λ octets. when (leb m 127) ((diagnostic_fields m).decode octets >>= λ f. optional_read (has m 64) (diagnostic_at n) f.1 >>= λ i.
    Some (diagnostic_within i.0 f.0, i.1)))
body n m e =
    exact_when (leb m 127)
    (exact_then (sound_diagnostic_fields m).exact
    (λ f. exact_map (λ (i : Option DiagnosticData). diagnostic_within i f) (exact_optional (Shallow n) (diagnostic_at n) (has m 64) e)))

to_at : (n m : ℕ) (y : DiagnosticData) (b a c c1 c2 : List ℕ) (f : DiagnosticFields) (i : Option DiagnosticData) (t : Bool)
    → has m 64 ≡ t → IsTrue (leb m 127) → b ≡ a ++ c → IsOctet m a → c ≡ c1 ++ c2 → (diagnostic_fields m).encodes f c1 → y ≡ diagnostic_within i f
    → Optional (Shallow n) t i c2 → Shallow (suc n) y b
to_at n m y b a c c1 c2 f None true is low e o e1 r1 iy r2 = absurd r2
to_at n m y b a c c1 c2 f None false is low e o e1 r1 iy r2 =
    subst (λ x. Shallow (suc n) x b) (sym iy) (
      (m, (a, c, e, o, (low, (is, subst ((diagnostic_fields m).encodes f) (sym (nil_behind c c1 c2 e1 r2)) r1)))),
      omega arith,
    )
to_at n m y b a c c1 c2 f (Some d) true is low e o e1 r1 iy r2 =
    let deep : diagnostic_depth d ≤ n = r2.1 in
    subst (λ x. Shallow (suc n) x b) (sym iy) ((m, (a, c, e, o, (low, (is, (c1, c2, e1, r1, r2.0))))), omega arith)
to_at n m y b a c c1 c2 f (Some d) false is low e o e1 r1 iy r2 = absurd r2

diagnostic_to : (n : ℕ) (y : DiagnosticData) (b : List ℕ) → (m : ℕ) × Joins (IsOctet m) (Body n m y) b → Shallow (suc n) y b
diagnostic_to n y b r =
    let j = r.1 in
    let w = j.4 in
    let g = w.1.1 in
    to_at n r.0 y b j.0 j.1 g.0 g.1 w.1.0 g.4.0 (has r.0 64) refl w.0 j.2 j.3 g.2 g.3 g.4.1 g.4.2

diagnostic_back : (n : ℕ) (y : DiagnosticData) (b : List ℕ) → Shallow (suc n) y b → (m : ℕ) × Joins (IsOctet m) (Body n m y) b
diagnostic_back n (innermost f) b r =
    let m = r.0.0 in
    let j = r.0.1 in
    let w = j.4 in (
      m,
      (
        j.0,
        j.1,
        j.2,
        j.3,
        (w.0, (f, (j.1, [], sym (append-nil j.1), w.1.1, (None, refl, subst (λ (t : Bool). Optional (Shallow n) t None []) (sym w.1.0) refl)))),
      ),
    )
diagnostic_back n (around f d) b r =
    let m = r.0.0 in
    let j = r.0.1 in
    let w = j.4 in
    let g = w.1.1 in
    let deep : diagnostic_depth d ≤ n = let h : 1 + diagnostic_depth d ≤ suc n = r.1 in omega arith in (
      m,
      (
        j.0,
        j.1,
        j.2,
        j.3,
        (w.0, (f, (g.0, g.1, g.2, g.3, (Some d, refl, subst (λ (t : Bool). Optional (Shallow n) t (Some d) g.1) (sym w.1.0) (g.4, deep))))),
      ),
    )

no_level : (d : DiagnosticData) (b : List ℕ) → Shallow 0 d b → ⊥
no_level (innermost f) b r = let h : 1 ≤ 0 = r.1 in absurd (omega arith)
no_level (around f d) b r = let h : 1 + diagnostic_depth d ≤ 0 = r.1 in absurd (omega arith)

pub exact_diagnostic : (n : ℕ) → Exact (Shallow n) (diagnostic_at n)
unfolding diagnostic_at diagnostic_step
exact_diagnostic zero = exact_none no_level
exact_diagnostic (suc n) = exact_as (Shallow (suc n)) (exact_then exact_octet (λ m. body n m (exact_diagnostic n))) (diagnostic_to n) (diagnostic_back n)

pub diagnostic_none : (n : ℕ) (octets : List ℕ) → n ≡ 0 → diagnostic_at n octets ≡ None
unfolding diagnostic_at
diagnostic_none n octets e = ap (λ k. diagnostic_at k octets) e

pub diagnostic_level : (n : ℕ) (octets : List ℕ) → 0 < n → diagnostic_at n octets ≡ diagnostic_step (diagnostic_at (n - 1)) octets
unfolding diagnostic_at
diagnostic_level zero octets h = absurd (omega arith)
diagnostic_level (suc n) octets h = ap (λ k. diagnostic_step (diagnostic_at k) octets) (omega arith)
