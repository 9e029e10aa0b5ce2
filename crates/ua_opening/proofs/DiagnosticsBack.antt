-- What octets encode as a DiagnosticInfo of at most 100 levels can be written.
use Rattle.std.specs.Prelude.{◌≡◌, ℕ, List, Bool, true, false, Option, Some, None, is_some}
use Rattle.std.specs.Int.{w32}
use Rattle.std.proofs.Common.{refl, ap, ◌∙◌}
use Rattle.ua_wire.specs.Format.{Flat}
use Rattle.ua_wire.specs.Signed.{signed}
use Rattle.ua_builtin.specs.Flags.{has, flagged_text}
use Rattle.ua_builtin.proofs.FlagBits.{text_back}
use Rattle.ua_diagnostic.specs.Parts.{Optional, optional_fits}
use Rattle.ua_diagnostic.specs.Diagnostic.{DiagnosticFields, DiagnosticData, innermost, around, diagnostic_fields}
use Rattle.ua_diagnostic.specs.Diagnostic.{diagnostic_fields_encodable, diagnostic_fits, EncodesDiagnostic}
use Rattle.ua_opening.proofs.FlatsBack.{WritesBack, and_true, back_signed_32, back_status_code, text_flagged}

-- a value where it is announced
pub optional_back : {A : Type 0} {f : Flat A} (set : Bool) (v : Option A) (b : List ℕ) → WritesBack f → Optional f.encodes set v b
    → optional_fits f.encodable v ≡ true
optional_back set None b back h = refl
optional_back true (Some v) b back h = back.fits v b h
optional_back false (Some v) b back h = absurd h

diagnostic_fields_back : (m : ℕ) (f : DiagnosticFields) (b : List ℕ) → (diagnostic_fields m).encodes f b → diagnostic_fields_encodable f ≡ true
unfolding diagnostic_fields diagnostic_fields_encodable
diagnostic_fields_back m f b h =
    let one = h.encoded in
    let two = one.second_encoded in
    let three = two.second_encoded in
    let four = three.second_encoded in
    let five = four.second_encoded in
    let number = optional_fits (signed w32).encodable in
    let a = h.of.0 in
    let c = h.of.1.0 in
    let d = h.of.1.1.0 in
    let e = h.of.1.1.1.0 in
    let g = h.of.1.1.1.1.0 in
    let i = h.of.1.1.1.1.1 in
    ap diagnostic_fields_encodable h.is
    ∙ and_true (number a) _ (optional_back (has m 0x01) a one.front back_signed_32 one.first_encoded)
    (and_true (number c) _ (optional_back (has m 0x02) c two.front back_signed_32 two.first_encoded)
    (and_true (number d) _ (optional_back (has m 0x08) d three.front back_signed_32 three.first_encoded)
    (and_true (number e) _ (optional_back (has m 0x04) e four.front back_signed_32 four.first_encoded)
    (and_true ((flagged_text (is_some g)).encodable g) _ (text_flagged (has m 0x10) g five.front (text_back (has m 0x10) g five.front five.first_encoded))
    (optional_back (has m 0x20) i five.back back_status_code five.second_encoded)))))

pub diagnostic_back : (d : DiagnosticData) (b : List ℕ) → EncodesDiagnostic d b → diagnostic_fits d ≡ true
diagnostic_back (innermost f) b h = let j = h.1 in diagnostic_fields_back h.0 f j.1 j.4.1.1
diagnostic_back (around f d) b h =
    let j = h.1 in
    let k = j.4.1.1 in
    and_true (diagnostic_fields_encodable f) (diagnostic_fits d) (diagnostic_fields_back h.0 f k.0 k.3) (diagnostic_back d k.1 k.4)
