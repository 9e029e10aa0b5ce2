-- DiagnosticInfo (OPC 10000-6, 5.2.2.12): as pure data, its levels, its encodings, and which is
-- written.
-- symbolic id 1 and the text "A", around an empty one: 51 01 00 00 00 01 00 00 00 41 00
use Rattle.std.specs.Prelude.{◌≡◌, ℕ, suc, zero, ◌+◌, Bool, true, false, ◌&&◌, leb, List, ◌∷◌, ◌++◌, Option, Some, None, is_some}
use lib.IntN.{ℤ}
use Rattle.std.specs.Int.{w32}
use Rattle.ua_builtin.specs.Exact.{◌>>=◌}
use Rattle.ua_builtin.specs.Number.{number_at}
use Rattle.ua_builtin.specs.Format.{Flat, most_levels}
use Rattle.ua_builtin.specs.Join.{both, made}
use Rattle.ua_builtin.specs.Signed.{signed}
use Rattle.ua_builtin.specs.Flags.{has, flag_bit, flagged_text}
use Rattle.ua_builtin.specs.Status.{status_code as status_code_format}
use Rattle.ua_builtin.specs.declared.status_code.StatusCode.{StatusCode}
use Rattle.ua_diagnostic.specs.Parts.{Decoder, when, Joins, Masked, there, optional, optional_fits, optional_canonical, optional_read}

-- the fields of a DiagnosticInfo except its inner one; a null text is an absent one
pub record DiagnosticFields : Type 0 where
  pub symbolic_id : Option ℤ
  pub namespace_uri : Option ℤ
  pub locale : Option ℤ
  pub localized_text : Option ℤ
  pub additional_info : Option (List ℕ)
  pub inner_status_code : Option StatusCode

-- the fields of a DiagnosticInfo if none of them is present
abbrev pub no_fields : DiagnosticFields
no_fields = record { symbolic_id = None; namespace_uri = None; locale = None; localized_text = None; additional_info = None; inner_status_code = None }

-- a DiagnosticInfo with its inner ones
pub data DiagnosticData : Type 0 where
  innermost : DiagnosticFields → DiagnosticData
  around : DiagnosticFields → DiagnosticData → DiagnosticData

-- the DiagnosticInfo of these fields, around an inner one if there is one
abbrev pub diagnostic_within : Option DiagnosticData → DiagnosticFields → DiagnosticData
diagnostic_within None f = innermost f
diagnostic_within (Some d) f = around f d

-- ---- levels and counts

-- the nesting depth of a DiagnosticInfo is one more than that of its inner one
abbrev pub diagnostic_depth : DiagnosticData → ℕ
diagnostic_depth (innermost f) = 1
diagnostic_depth (around f d) = 1 + diagnostic_depth d

-- how many of the fields are present
abbrev pub diagnostic_fields_count : DiagnosticFields → ℕ
diagnostic_fields_count f = there f.symbolic_id + there f.namespace_uri + there f.locale + there f.localized_text + there f.additional_info
    + there f.inner_status_code

-- a Variant, DataValue or DiagnosticInfo counts 1 plus what it contains; each other scalar, field
-- and dimension counts 1
abbrev pub diagnostic_count : DiagnosticData → ℕ
diagnostic_count (innermost f) = 1 + diagnostic_fields_count f
diagnostic_count (around f d) = 1 + diagnostic_fields_count f + diagnostic_count d

-- ---- which bytes encode it

-- symbolic id 0x01, namespace 0x02, locale 0x08, localized text 0x04, additional info 0x10, inner
-- status 0x20
-- in this order: the locale stands before the text, whose bit is the lower one (OPC 10000-6,
-- 5.2.2.12)
unfoldable pub diagnostic_fields : ℕ → Flat DiagnosticFields
diagnostic_fields m =
    made (λ (a, (b, (c, (d, (e, f))))). record {
      symbolic_id = a;
      namespace_uri = b;
      locale = c;
      localized_text = d;
      additional_info = e;
      inner_status_code = f;
    })
    (λ f. (f.symbolic_id, (f.namespace_uri, (f.locale, (f.localized_text, (f.additional_info, f.inner_status_code))))))
    (both (optional (has m 0x01) (signed w32))
    (both (optional (has m 0x02) (signed w32))
    (both (optional (has m 0x08) (signed w32))
    (both (optional (has m 0x04) (signed w32))
    (both (flagged_text (has m 0x10))
    (optional (has m 0x20) status_code_format))))))

-- a mask of at most 0x7F, the fields that it announces, and after them if 0x40 is set the inner
-- info (OPC 10000-6, 5.2.2.12)
abbrev pub EncodesDiagnostic : DiagnosticData → List ℕ → Type 0
EncodesDiagnostic (innermost f) b = Masked 0x7F (λ m c. (has m 0x40 ≡ false) × (diagnostic_fields m).encodes f c) b
EncodesDiagnostic (around f d) b = Masked 0x7F (λ m c. (has m 0x40 ≡ true) × Joins ((diagnostic_fields m).encodes f) (EncodesDiagnostic d) c) b

-- ---- which can be encoded, and how

-- the flags of the fields that are present (OPC 10000-6, 5.2.2.12)
unfoldable pub diagnostic_flags : DiagnosticFields → ℕ
diagnostic_flags f =
    flag_bit 0x01 (is_some f.symbolic_id) + flag_bit 0x02 (is_some f.namespace_uri) + flag_bit 0x04 (is_some f.localized_text)
    + flag_bit 0x08 (is_some f.locale) + flag_bit 0x10 (is_some f.additional_info) + flag_bit 0x20 (is_some f.inner_status_code)

-- each field that is present can be encoded
unfoldable pub diagnostic_fields_encodable : DiagnosticFields → Bool
diagnostic_fields_encodable f =
    let number = optional_fits (signed w32).encodable in
    number f.symbolic_id && (number f.namespace_uri && (number f.locale && (number f.localized_text
    && ((flagged_text (is_some f.additional_info)).encodable f.additional_info && optional_fits status_code_format.encodable f.inner_status_code))))

-- each field that is present can be encoded, at every level
abbrev pub diagnostic_fits : DiagnosticData → Bool
diagnostic_fits (innermost f) = diagnostic_fields_encodable f
diagnostic_fits (around f d) = diagnostic_fields_encodable f && diagnostic_fits d

-- a nesting depth of at most 100, and each field that is present can be encoded
abbrev pub diagnostic_encodable : DiagnosticData → Bool
diagnostic_encodable d = leb (diagnostic_depth d) most_levels && diagnostic_fits d

-- the canonical encoding of the fields, after the mask
unfoldable pub diagnostic_fields_canonical : DiagnosticFields → List ℕ
diagnostic_fields_canonical f =
    let number = optional_canonical (signed w32).canonical in
    number f.symbolic_id ++ (number f.namespace_uri ++ (number f.locale ++ (number f.localized_text
    ++ ((flagged_text (is_some f.additional_info)).canonical f.additional_info ++ optional_canonical status_code_format.canonical f.inner_status_code))))

-- the canonical encoding: the mask, the fields that are present, and the inner one if there is one
abbrev pub diagnostic_canonical : DiagnosticData → List ℕ
diagnostic_canonical (innermost f) = diagnostic_flags f ∷ diagnostic_fields_canonical f
diagnostic_canonical (around f d) = (diagnostic_flags f + 0x40) ∷ (diagnostic_fields_canonical f ++ diagnostic_canonical d)

-- ---- reading on lists

-- a mask of at most 0x7F, the fields that it announces, and if 0x40 is set an inner one, which
-- inner decodes
unfoldable pub diagnostic_step : Decoder DiagnosticData → Decoder DiagnosticData
diagnostic_step inner octets = number_at 1 octets >>= λ m. when (leb m.0 0x7F) (
    (diagnostic_fields m.0).decode m.1 >>= λ f. optional_read (has m.0 0x40) inner f.1 >>= λ i. Some (diagnostic_within i.0 f.0, i.1))

-- with this nesting depth left
unfoldable pub diagnostic_at : ℕ → Decoder DiagnosticData
diagnostic_at zero octets = None
diagnostic_at (suc n) octets = diagnostic_step (diagnostic_at n) octets
