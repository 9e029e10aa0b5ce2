-- The formats of Variant and DataValue are lawful.
use Rattle.std.specs.Prelude.{ℕ, []}
use Rattle.ua_wire.specs.Exact.{Exact, image_read}
use Rattle.ua_wire.specs.Format.{IsLawful, Within}
use Rattle.ua_diagnostic.proofs.DiagnosticsLawful.{exact_made, no_octet}
use Rattle.ua_variant.specs.Data.{DataValueData, bare, valued}
use Rattle.ua_variant.specs.View.{variant_of, data_value_of}
use Rattle.ua_variant.specs.Values.{variant_value, data_value_value}
use Rattle.ua_variant.specs.Measure.{variant_depth, data_value_depth}
use Rattle.ua_variant.specs.Encoding.{EncodesVariant, EncodesDataValue}
use Rattle.ua_variant.specs.Decoding.{variant_at, data_value_at}
use Rattle.ua_variant.specs.Formats.{variant_format, data_value_format}
use Rattle.ua_variant.proofs.Viewed.{variant_forth, variant_value_of, data_value_forth, data_value_value_of}
use Rattle.ua_variant.proofs.ScalarsRead.{ShallowV, ShallowD}
use Rattle.ua_variant.proofs.VariantsRead.{exact_variant, exact_data_value, no_octets}
use Rattle.ua_variant.proofs.Encoded.{variant_canonical_encodes, variant_encodable_depth, data_value_canonical_encodes, data_value_encodable_depth}
use Rattle.ua_variant.proofs.Lengths.{variant_takes, data_value_takes}

pub exact_variant_value : (n : ℕ) → Exact (Within (λ v. EncodesVariant (variant_of v)) (λ v. variant_depth (variant_of v)) n)
    (image_read variant_value (variant_at n))
exact_variant_value n = exact_made variant_of variant_value (ShallowV n) (variant_at n) variant_value_of variant_forth (exact_variant n)

pub exact_data_value_value : (n : ℕ) → Exact (Within (λ v. EncodesDataValue (data_value_of v)) (λ v. data_value_depth (data_value_of v)) n)
    (image_read data_value_value (data_value_at n))
exact_data_value_value n = exact_made data_value_of data_value_value (ShallowD n) (data_value_at n) data_value_value_of data_value_forth (exact_data_value n)

pub data_value_some : (d : DataValueData) → EncodesDataValue d [] → ⊥
data_value_some (bare f) h = let j = h.1 in no_octet h.0 j.0 j.1 j.2 j.3
data_value_some (valued v f) h = let j = h.1 in no_octet h.0 j.0 j.1 j.2 j.3

pub lawful_variant : IsLawful variant_format
unfolding variant_format
lawful_variant = record {
  exact = exact_variant_value;
  canonical_encodes = λ v h. variant_canonical_encodes (variant_of v) h;
  encodable_depth = λ v h. variant_encodable_depth (variant_of v) h;
  counted = λ v b h. variant_takes (variant_of v) b h;
  starts = λ v h. no_octets (variant_of v) h;
}

pub lawful_data_value : IsLawful data_value_format
unfolding data_value_format
lawful_data_value = record {
  exact = exact_data_value_value;
  canonical_encodes = λ v h. data_value_canonical_encodes (data_value_of v) h;
  encodable_depth = λ v h. data_value_encodable_depth (data_value_of v) h;
  counted = λ v b h. data_value_takes (data_value_of v) b h;
  starts = λ v h. data_value_some (data_value_of v) h;
}
