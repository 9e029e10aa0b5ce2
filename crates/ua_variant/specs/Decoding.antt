-- Decoders on lists of bytes: the value at the start and the bytes after it, or nothing.
use Rattle.std.specs.Prelude.{ℕ, suc, zero, ◌%◌, Bool, cond, ◌&&◌, not, leb, eqb, Option, Some, None}
use Rattle.ua_builtin.specs.Exact.{◌>>=◌}
use Rattle.ua_builtin.specs.Number.{number_at}
use Rattle.ua_variant.specs.Data.{VariantData, null, one, absent, many, ScalarData, leaf, data_value}
use Rattle.ua_variant.specs.Data.{variant, diagnostic, ScalarsData, no_scalars, scalar, DataValueData}
use Rattle.ua_diagnostic.specs.Diagnostic.{DiagnosticData}
use Rattle.ua_variant.specs.View.{value_within}
use Rattle.ua_builtin.specs.Flags.{has}
use Rattle.ua_diagnostic.specs.Parts.{Decoder, when, optional_read}
use Rattle.ua_variant.specs.Leaf.{leaf_at, holds_values}
use Rattle.ua_variant.specs.Fields.{data_fields}
use Rattle.ua_variant.specs.Encodable.{is_read_kind}
use Rattle.ua_diagnostic.specs.Dimensions.{is_negative, dims_at, no_dims_at}
use Rattle.ua_diagnostic.specs.Diagnostic.{diagnostic_at}

-- a mask of at most 0x3F, a value if 0x01 is set, which inner decodes, and the other fields that
-- the mask announces
unfoldable pub data_value_step : Decoder VariantData → Decoder DataValueData
data_value_step inner octets = number_at 1 octets >>= λ m. when (leb m.0 0x3F) (
    optional_read (has m.0 0x01) inner m.1 >>= λ v. (data_fields m.0).decode v.1 >>= λ f. Some (value_within v.0 f.0, f.1))

-- after the value of a DataValue: the other fields, which the mask m announces
abbrev pub fields_behind : ℕ → Option VariantData → Decoder DataValueData
fields_behind m v octets = (data_fields m).decode octets >>= λ f. Some (value_within v f.0, f.1)

-- a scalar of the type id
unfoldable pub scalar_at : Decoder DataValueData → Decoder VariantData → Decoder DiagnosticData → ℕ → Decoder ScalarData
scalar_at dv v dg k octets =
    cond (holds_values k) (
    cond (eqb k 23) (dv octets >>= λ x. Some (data_value x.0, x.1)) (
    cond (eqb k 24) (v octets >>= λ x. Some (variant x.0, x.1)) (
    dg octets >>= λ x. Some (diagnostic x.0, x.1))))
    (leaf_at k octets >>= λ x. Some (leaf x.0, x.1))

-- n values
abbrev pub row_at : ℕ → Decoder ScalarData → Decoder ScalarsData
row_at zero p octets = Some (no_scalars, octets)
row_at (suc n) p octets = p octets >>= λ s. row_at n p s.1 >>= λ ss. Some (scalar s.0 ss.0, ss.1)

-- n elements and their dimensions
abbrev pub elements_at : (ℕ → Decoder ScalarData) → ℕ → Bool → ℕ → Decoder VariantData
elements_at p k f n octets = row_at n (p k) octets >>= λ ss. dims_at f n ss.1 >>= λ ds. Some (many k ss.0 ds.0, ds.1)

-- after n elements, and after the count of a null array: the dimensions
abbrev pub dims_behind : ℕ → Bool → ℕ → ScalarsData → Decoder VariantData
dims_behind k f n ss octets = dims_at f n octets >>= λ ds. Some (many k ss ds.0, ds.1)

abbrev pub no_dims_behind : ℕ → Bool → Decoder VariantData
no_dims_behind k f octets = no_dims_at f octets >>= λ ds. Some (absent k ds.0, ds.1)

-- after the first byte of an array: a count, its elements and dimensions; a negative count is a
-- null array
unfoldable pub variant_array_at : (ℕ → Decoder ScalarData) → ℕ → Bool → Decoder VariantData
variant_array_at p k f octets = number_at 4 octets >>= λ n. cond (is_negative n.0)
    (no_dims_at f n.1 >>= λ ds. Some (absent k ds.0, ds.1))
    (elements_at p k f n.0 n.1)

-- after the first byte t
unfoldable pub variant_after : (ℕ → Decoder ScalarData) → ℕ → Decoder VariantData
variant_after p t octets =
    cond (eqb t 0) (Some (null, octets)) (
    cond (leb 0x80 t) (when (is_read_kind (t % 0x40) && leb t 0xFF) (variant_array_at p (t % 0x40) (has t 0x40) octets))
    (when (not (eqb t 24)) (p t octets >>= λ s. Some (one s.0, s.1))))

-- the first byte and what it announces, where p decodes the scalars of each type id
unfoldable pub variant_step : (ℕ → Decoder ScalarData) → Decoder VariantData
variant_step p octets = number_at 1 octets >>= λ t. variant_after p t.0 t.1

-- a Variant, and a DataValue, with this nesting depth left
unfoldable mutual
  pub variant_at : ℕ → Decoder VariantData
  variant_at zero octets = None
  variant_at (suc n) octets = variant_step (scalar_at (data_value_at n) (variant_at n) (diagnostic_at n)) octets

  pub data_value_at : ℕ → Decoder DataValueData
  data_value_at zero octets = None
  data_value_at (suc n) octets = data_value_step (variant_at n) octets

-- the scalars of each type id, with a nesting depth of n left
abbrev pub scalars_at : ℕ → ℕ → Decoder ScalarData
scalars_at n = scalar_at (data_value_at n) (variant_at n) (diagnostic_at n)
