-- What is written of a DiagnosticInfo encodes it.
use Rattle.std.specs.Prelude.{◌≡◌, ℕ, ◌+◌, ◌*◌, ◌/◌, ◌%◌, ◌≤◌, Bool, true, ◌&&◌, IsTrue, leb, eqb, [], ◌∷◌, ◌++◌, is_some}
use Rattle.std.proofs.Common.{refl, sym, subst, ap, ap₂, ◌∙◌, arith}
use Rattle.std.proofs.lemmas.Grind.{common_steps}
use Rattle.std.specs.Int.{w32}
use Rattle.ua_wire.specs.Format.{most_levels}
use Rattle.ua_wire.specs.Signed.{signed}
use Rattle.ua_wire.proofs.Readers.{both_true}
use Rattle.ua_builtin.specs.Flags.{has, flagged_text}
use Rattle.ua_builtin.proofs.FlagBits.{has_bit}
use Rattle.ua_builtin.specs.Status.{status_code as status_code_format}
use Rattle.ua_diagnostic.specs.Parts.{there, optional_canonical}
use Rattle.ua_diagnostic.proofs.PartsLawful.{fits_second, depth_first}
use Rattle.ua_diagnostic.proofs.Masks.{bit_is, there_within, flag_there, optional_at, bits_of}
use Rattle.ua_diagnostic.specs.Diagnostic.{DiagnosticFields, DiagnosticData, innermost, around, diagnostic_depth, diagnostic_fields}
use Rattle.ua_diagnostic.specs.Diagnostic.{diagnostic_flags, EncodesDiagnostic, diagnostic_fields_encodable, diagnostic_fits}
use Rattle.ua_diagnostic.specs.Diagnostic.{diagnostic_encodable, diagnostic_fields_canonical, diagnostic_canonical}
use Rattle.ua_diagnostic.proofs.DiagnosticsRead.{sound_diagnostic_fields}

-- ---- the mask

-- with the flag of the inner one, v
abbrev pub diagnostic_mask : DiagnosticFields → ℕ → ℕ
diagnostic_mask f v = diagnostic_flags f + 64 * v

diagnostic_sum : (f : DiagnosticFields) → diagnostic_flags f ≡ there f.symbolic_id + 2 * there f.namespace_uri + 4 * there f.localized_text + 8 * there f.locale
    + 16 * there f.additional_info + 32 * there f.inner_status_code
unfolding diagnostic_flags
diagnostic_sum f = omega (
  arith,
  bit_is 1 f.symbolic_id,
  bit_is 2 f.namespace_uri,
  bit_is 4 f.localized_text,
  bit_is 8 f.locale,
  bit_is 16 f.additional_info,
  bit_is 32 f.inner_status_code,
)

-- a seventh bit above six
seventh : (m n v : ℕ) → n ≤ 63 → v ≤ 1 → m ≡ n + 64 * v → (m / 1 % 2 ≡ n / 1 % 2) × (m / 2 % 2 ≡ n / 2 % 2) × (m / 4 % 2 ≡ n / 4 % 2) × (m / 8 % 2 ≡ n / 8 % 2)
    × (m / 16 % 2 ≡ n / 16 % 2) × (m / 32 % 2 ≡ n / 32 % 2) × (m / 64 % 2 ≡ v) × (m ≤ 127)
seventh m n v h k e = (omega arith, omega arith, omega arith, omega arith, omega arith, omega arith, omega arith, omega arith)

low_bits : (f : DiagnosticFields) → let n = diagnostic_flags f in
    (n / 1 % 2 ≡ there f.symbolic_id) × (n / 2 % 2 ≡ there f.namespace_uri) × (n / 4 % 2 ≡ there f.localized_text) × (n / 8 % 2 ≡ there f.locale)
    × (n / 16 % 2 ≡ there f.additional_info) × (n / 32 % 2 ≡ there f.inner_status_code) × (n ≤ 63)
low_bits f =
    bits_of (diagnostic_flags f) (there f.symbolic_id) (there f.namespace_uri) (there f.localized_text) (there f.locale) (there f.additional_info)
    (there f.inner_status_code) (diagnostic_sum f) (there_within f.symbolic_id) (there_within f.namespace_uri) (there_within f.localized_text)
    (there_within f.locale) (there_within f.additional_info) (there_within f.inner_status_code)

pub diagnostic_mask_low : (f : DiagnosticFields) (v : ℕ) → v ≤ 1 → diagnostic_mask f v ≤ 127
diagnostic_mask_low f v h = (seventh (diagnostic_mask f v) (diagnostic_flags f) v (low_bits f).6 h refl).7

pub diagnostic_mask_inner : (f : DiagnosticFields) (v : ℕ) → v ≤ 1 → has (diagnostic_mask f v) 64 ≡ eqb v 1
diagnostic_mask_inner f v h = has_bit (diagnostic_mask f v) 6
    ∙ ap (λ (r : ℕ). eqb r 1) (seventh (diagnostic_mask f v) (diagnostic_flags f) v (low_bits f).6 h refl).6

pub diagnostic_fields_encodable_as : (f : DiagnosticFields) (v : ℕ) → v ≤ 1 → (diagnostic_fields (diagnostic_mask f v)).encodable f
    ≡ diagnostic_fields_encodable f
unfolding diagnostic_fields diagnostic_fields_encodable
diagnostic_fields_encodable_as f v h =
    let m = diagnostic_mask f v in
    let b = low_bits f in
    let s = seventh m (diagnostic_flags f) v b.6 h refl in
    ap₂ (λ (x y : Bool). x && y) (optional_at (signed w32).encodable (has m 1) f.symbolic_id (flag_there 0 m f.symbolic_id (s.0 ∙ b.0)))
    (ap₂ (λ (x y : Bool). x && y) (optional_at (signed w32).encodable (has m 2) f.namespace_uri (flag_there 1 m f.namespace_uri (s.1 ∙ b.1)))
    (ap₂ (λ (x y : Bool). x && y) (optional_at (signed w32).encodable (has m 8) f.locale (flag_there 3 m f.locale (s.3 ∙ b.3)))
    (ap₂ (λ (x y : Bool). x && y) (optional_at (signed w32).encodable (has m 4) f.localized_text (flag_there 2 m f.localized_text (s.2 ∙ b.2)))
    (ap₂ (λ (x y : Bool). x && y) (ap (λ (t : Bool). (flagged_text t).encodable f.additional_info) (flag_there 4 m f.additional_info (s.4 ∙ b.4)))
    (optional_at status_code_format.encodable (has m 32) f.inner_status_code (flag_there 5 m f.inner_status_code (s.5 ∙ b.5)))))))

-- ---- what is written

-- a writer flags the text just where it is not null
mask_text : (f : DiagnosticFields) (v : ℕ) → v ≤ 1 → has (diagnostic_mask f v) 16 ≡ is_some f.additional_info
mask_text f v h = flag_there 4 (diagnostic_mask f v) f.additional_info ((seventh (diagnostic_mask f v) (diagnostic_flags f) v (low_bits f).6 h refl).4
    ∙ (low_bits f).4)

-- the flag of the text alone decides what is written for the fields
canonical_by : (m : ℕ) (f : DiagnosticFields) → has m 16 ≡ is_some f.additional_info → (diagnostic_fields m).canonical f ≡ diagnostic_fields_canonical f
unfolding diagnostic_fields diagnostic_fields_canonical
canonical_by m f e =
    let number = optional_canonical (signed w32).canonical in
    ap (λ (t : Bool).
    number f.symbolic_id
    ++ (number f.namespace_uri
    ++ (number f.locale
    ++ (number f.localized_text ++ ((flagged_text t).canonical f.additional_info ++ optional_canonical status_code_format.canonical f.inner_status_code)))))
    e

diagnostic_fields_encoded : (f : DiagnosticFields) (v : ℕ) → v ≤ 1 → diagnostic_fields_encodable f ≡ true
    → (diagnostic_fields (diagnostic_mask f v)).encodes f (diagnostic_fields_canonical f)
diagnostic_fields_encoded f v h fits =
    subst ((diagnostic_fields (diagnostic_mask f v)).encodes f) (canonical_by (diagnostic_mask f v) f (mask_text f v h))
    ((sound_diagnostic_fields (diagnostic_mask f v)).canonical_encodes f (diagnostic_fields_encodable_as f v h ∙ fits))

low_127 : (m : ℕ) → m ≤ 127 → IsTrue (leb m 127)
low_127 m h = Prim.grind (arith, common_steps)

innermost_at : (f : DiagnosticFields) (m : ℕ) → m ≡ diagnostic_mask f 0 → diagnostic_fields_encodable f ≡ true
    → EncodesDiagnostic (innermost f) (m ∷ diagnostic_fields_canonical f)
innermost_at f m e fits =
    let low : m ≤ 127 = omega (arith, e, diagnostic_mask_low f 0 (omega arith)) in (
      m,
      (
        m ∷ [],
        diagnostic_fields_canonical f,
        refl,
        (omega arith, refl),
        (
          low_127 m low,
          (
            ap (λ (k : ℕ). has k 64) e ∙ diagnostic_mask_inner f 0 (omega arith),
            subst (λ k. (diagnostic_fields k).encodes f (diagnostic_fields_canonical f))
                (sym e) (diagnostic_fields_encoded f 0 (omega arith) fits),
          ),
        ),
      ),
    )

pub diagnostic_encodes : (d : DiagnosticData) → diagnostic_fits d ≡ true → EncodesDiagnostic d (diagnostic_canonical d)
diagnostic_encodes (innermost f) h = innermost_at f (diagnostic_flags f) (omega arith) h
diagnostic_encodes (around f d) h =
    let w = both_true (diagnostic_fields_encodable f) (diagnostic_fits d) h in
    let m = diagnostic_mask f 1 in
    let low : m ≤ 127 = diagnostic_mask_low f 1 (omega arith) in (
      m,
      (
        m ∷ [],
        diagnostic_fields_canonical f ++ diagnostic_canonical d,
        refl,
        (omega arith, refl),
        (
          low_127 m low,
          (
            diagnostic_mask_inner f 1 (omega arith),
            (
              diagnostic_fields_canonical f,
              diagnostic_canonical d,
              refl,
              diagnostic_fields_encoded f 1 (omega arith) w.0,
              diagnostic_encodes d w.1,
            ),
          ),
        ),
      ),
    )

pub diagnostic_canonical_encodes : (d : DiagnosticData) → IsTrue (diagnostic_encodable d) → EncodesDiagnostic d (diagnostic_canonical d)
diagnostic_canonical_encodes d h = diagnostic_encodes d (fits_second (diagnostic_depth d) (diagnostic_fits d) h)

pub diagnostic_encodable_depth : (d : DiagnosticData) → IsTrue (diagnostic_encodable d) → diagnostic_depth d ≤ most_levels
diagnostic_encodable_depth d h = depth_first (diagnostic_depth d) (diagnostic_fits d) h
