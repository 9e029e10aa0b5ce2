-- The formats of Variant and DataValue, over the values of the code.
pub use Rattle.ua_diagnostic.specs.Formats.{diagnostic_format}
use Rattle.std.specs.Prelude.{◌≡◌, ℕ, ◌<◌, ◌≤◌, ◌*◌, ◌%◌, true, List, length, Some}
use Rattle.ua_builtin.specs.Exact.{image_read}
use Rattle.ua_builtin.specs.Number.{number_at}
use Rattle.ua_builtin.specs.Format.{Format}
use Rattle.ua_builtin.specs.Counted.{first_negative}
use Rattle.ua_variant.specs.declared.values.Variant.{Variant}
use Rattle.ua_variant.specs.declared.values.DataValue.{DataValue}
use Rattle.ua_variant.specs.View.{variant_of, data_value_of}
use Rattle.ua_variant.specs.Values.{variant_value, data_value_value}
use Rattle.ua_variant.specs.Measure.{variant_depth, data_value_depth, variant_count, data_value_count}
use Rattle.ua_variant.specs.Encodable.{variant_encodable, data_value_encodable, is_read_kind}
use Rattle.ua_variant.specs.Least.{least_octets}
use Rattle.ua_variant.specs.Encoding.{EncodesVariant, EncodesDataValue}
use Rattle.ua_variant.specs.Canonical.{variant_canonical, data_value_canonical}
use Rattle.ua_variant.specs.Decoding.{variant_at, data_value_at}

-- Variants, encoded as the data that they stand for (OPC 10000-6, 5.2.2.16)
unfoldable pub variant_format : Format Variant
variant_format = record {
  encodes = λ v. EncodesVariant (variant_of v);
  depth = λ v. variant_depth (variant_of v);
  count = λ v. variant_count (variant_of v);
  encodable = λ v. variant_encodable (variant_of v);
  canonical = λ v. variant_canonical (variant_of v);
  decode = λ levels. image_read variant_value (variant_at levels);
}

-- DataValues, encoded as the data that they stand for (OPC 10000-6, 5.2.2.17)
unfoldable pub data_value_format : Format DataValue
data_value_format = record {
  encodes = λ v. EncodesDataValue (data_value_of v);
  depth = λ v. data_value_depth (data_value_of v);
  count = λ v. data_value_count (data_value_of v);
  encodable = λ v. data_value_encodable (data_value_of v);
  canonical = λ v. data_value_canonical (data_value_of v);
  decode = λ levels. image_read data_value_value (data_value_at levels);
}

-- ---- arrays that claim more than there is

-- a count that is not negative, and after it fewer bytes than this many elements of the type id
-- take at least
pub record IsOverlongRow (kind : ℕ) (octets : List ℕ) : Type 0 where
  pub count : ℕ
  pub rest : List ℕ
  pub begins : number_at 4 octets ≡ Some (count, rest)
  pub positive : count < first_negative
  pub beyond : length rest < count * least_octets kind

-- the byte of an array of a type id from 1 to 31, and after it such a count
pub record IsOverlongArray (octets : List ℕ) : Type 0 where
  pub tag : ℕ
  pub rest : List ℕ
  pub begins : number_at 1 octets ≡ Some (tag, rest)
  pub array : 0x80 ≤ tag
  pub kind : is_read_kind (tag % 0x40) ≡ true
  pub overlong : IsOverlongRow (tag % 0x40) rest
