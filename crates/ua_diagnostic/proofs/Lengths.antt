-- How many octets an encoding takes at least.
use Rattle.std.specs.Prelude.{◌≡◌, ℕ, ◌+◌, ◌*◌, ◌≤◌, Bool, true, false, List, [], ◌∷◌, ◌++◌, length, Option, Some, None}
use lib.IntN.{ℤ, pos, negsuc}
use Rattle.std.proofs.Common.{refl, sym, subst, ap, ◌∙◌, arith, length-append}
use Rattle.std.specs.Int.{w32}
use Rattle.ua_wire.specs.Number.{IsNumber}
use Rattle.ua_wire.specs.Format.{TakesSome}
use Rattle.ua_wire.specs.Signed.{signed}
use Rattle.ua_wire.specs.Counted.{text}
use Rattle.ua_wire.proofs.NumbersRead.{length-number_octets}
use Rattle.ua_wire.proofs.ScalarsLawful.{signed_starts}
use Rattle.ua_wire.proofs.CountedLawful.{text_starts}
use Rattle.ua_builtin.specs.Flags.{has, flagged_text}
use Rattle.ua_builtin.specs.Status.{status_code as status_code_format}
use Rattle.ua_builtin.proofs.PlainLawful.{lawful_status_code}
use Rattle.ua_diagnostic.specs.Parts.{IsOctet, there, Optional}
use Rattle.ua_diagnostic.specs.Dimensions.{IsSize, EncodesSizes, EncodesDims}
use Rattle.ua_diagnostic.specs.Diagnostic.{DiagnosticFields, DiagnosticData, innermost, around, diagnostic_fields}
use Rattle.ua_diagnostic.specs.Diagnostic.{diagnostic_fields_count, diagnostic_count, EncodesDiagnostic}

pub takes_some : {A : Type 0} (p : A → List ℕ → Type 0) → TakesSome p → (v : A) (b : List ℕ) → p v b → 1 ≤ length b
takes_some p some v [] h = absurd (some v h)
takes_some p some v (x ∷ b) h = omega arith

pub optional_takes : {A : Type 0} (p : A → List ℕ → Type 0) → TakesSome p → (t : Bool) (v : Option A) (b : List ℕ) → Optional p t v b → there v ≤ length b
optional_takes p some true None b h = absurd h
optional_takes p some true (Some x) b h = takes_some p some x b h
optional_takes p some false None b h = omega arith
optional_takes p some false (Some x) b h = absurd h

flagged_takes : (t : Bool) (v : Option (List ℕ)) (b : List ℕ) → (flagged_text t).encodes v b → there v ≤ length b
flagged_takes true None b h = omega arith
flagged_takes true (Some x) b h = takes_some text.encodes text_starts (Some x) b h
flagged_takes false None b h = omega arith
flagged_takes false (Some x) b h = let e = h.0 in absurd cc

pub both_take : (b front back : List ℕ) (m n : ℕ) → b ≡ front ++ back → m ≤ length front → n ≤ length back → m + n ≤ length b
both_take b front back m n e h k = omega (arith, ap length e, length-append front back)

abbrev signed_some : TakesSome (signed w32).encodes
signed_some = signed_starts w32 3 refl

pub diagnostic_fields_take : (m : ℕ) (f : DiagnosticFields) (b : List ℕ) → (diagnostic_fields m).encodes f b → diagnostic_fields_count f ≤ length b
unfolding diagnostic_fields
diagnostic_fields_take m f b h =
    let j = h.encoded in
    let k = j.second_encoded in
    let l = k.second_encoded in
    let n = l.second_encoded in
    let o = n.second_encoded in
    let r5 = both_take n.back o.front o.back _ _ o.parts (flagged_takes (has m 16) _ o.front o.first_encoded)
    (optional_takes status_code_format.encodes lawful_status_code.starts (has m 32) _ o.back o.second_encoded) in
    let r4 = both_take l.back n.front n.back _ _ n.parts (optional_takes (signed w32).encodes signed_some (has m 4) _ n.front n.first_encoded) r5 in
    let r3 = both_take k.back l.front l.back _ _ l.parts (optional_takes (signed w32).encodes signed_some (has m 8) _ l.front l.first_encoded) r4 in
    let r2 = both_take j.back k.front k.back _ _ k.parts (optional_takes (signed w32).encodes signed_some (has m 2) _ k.front k.first_encoded) r3 in
    let r1 = both_take b j.front j.back _ _ j.parts (optional_takes (signed w32).encodes signed_some (has m 1) _ j.front j.first_encoded) r2 in
    subst (λ g. diagnostic_fields_count g ≤ length b) (sym h.is) (omega arith)

pub octet_takes : (m n : ℕ) (b a c : List ℕ) → b ≡ a ++ c → IsOctet m a → n ≤ length c → 1 + n ≤ length b
octet_takes m n b a c e o h = both_take b a c 1 n e (let l : length a ≡ 1 = ap length o.1 in omega arith) h

pub number_takes : (n : ℕ) (b : List ℕ) → IsNumber 4 n b → length b ≡ 4
number_takes n b h = ap length h.1 ∙ length-number_octets 4 n

pub diagnostic_takes : (d : DiagnosticData) (b : List ℕ) → EncodesDiagnostic d b → diagnostic_count d ≤ length b
diagnostic_takes (innermost f) b h =
    let j = h.1 in octet_takes h.0 _ b j.0 j.1 j.2 j.3 (diagnostic_fields_take h.0 f j.1 j.4.1.1)
diagnostic_takes (around f d) b h =
    let j = h.1 in
    let g = j.4.1.1 in
    let r = octet_takes h.0 _ b j.0 j.1 j.2 j.3 (both_take j.1 g.0 g.1 _ _ g.2 (diagnostic_fields_take h.0 f g.0 g.3) (diagnostic_takes d g.1 g.4)) in
    omega arith

size_takes : (d : ℤ) (b : List ℕ) → IsSize d b → length b ≡ 4
size_takes (pos n) b h = number_takes n b h.0
size_takes (negsuc n) b h = absurd h

-- a dimension takes 4 octets
pub sizes_take : (ds : List ℤ) (b : List ℕ) → EncodesSizes ds b → length b ≡ 4 * length ds
sizes_take [] b h = ap length h
sizes_take (d ∷ ds) b h = omega (arith, ap length h.2, length-append h.0 h.1, size_takes d h.0 h.3, sizes_take ds h.1 h.4)

pub dims_take : (f : Bool) (n : ℕ) (ds : List ℤ) (b : List ℕ) → EncodesDims f n ds b → length ds ≤ length b
dims_take false n ds b h = omega (arith, ap length h.0)
dims_take true n [] b h = omega arith
dims_take true n (d ∷ ds) b h =
    let j = h.1 in omega (arith, ap length j.2, length-append j.0 j.1, sizes_take (d ∷ ds) j.1 j.4)
