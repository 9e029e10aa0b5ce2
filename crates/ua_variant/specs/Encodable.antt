-- Which values can be encoded.
pub use Rattle.ua_diagnostic.specs.Diagnostic.{diagnostic_encodable}
pub use Rattle.ua_diagnostic.specs.Dimensions.{dims_encodable}
use Rattle.std.specs.Prelude.{ℕ, ◌+◌, Bool, true, false, ◌&&◌, leb, eqb, not, [], ◌∷◌}
use Rattle.ua_variant.specs.Data.{DataFields, VariantData, null, one, absent, many, ScalarData, leaf, data_value}
use Rattle.ua_variant.specs.Data.{variant, diagnostic, ScalarsData, no_scalars, scalar, DataValueData, bare, valued}
use Rattle.ua_variant.specs.Leaf.{leaf_kind, leaf_encodable}
use Rattle.ua_variant.specs.Measure.{variant_depth, data_value_depth}
use Rattle.ua_builtin.specs.Format.{most_levels}
use Rattle.ua_builtin.specs.Join.{number}
use Rattle.ua_builtin.specs.DateTime.{date_time as date_time_format}
use Rattle.ua_builtin.specs.Status.{status_code as status_code_format}
use Rattle.ua_diagnostic.specs.Parts.{optional_fits}
use Rattle.ua_diagnostic.specs.Dimensions.{is_count}
use Rattle.ua_diagnostic.specs.Diagnostic.{diagnostic_fits}

-- the type id
abbrev pub kind_of_scalar : ScalarData → ℕ
kind_of_scalar (leaf l) = leaf_kind l
kind_of_scalar (data_value d) = 23
kind_of_scalar (variant v) = 24
kind_of_scalar (diagnostic d) = 25

-- the type ids that are encoded
abbrev pub is_kind : ℕ → Bool
is_kind k = leb 1 k && leb k 25

-- the type ids that are decoded: those that are encoded, and the reserved ones
abbrev pub is_read_kind : ℕ → Bool
is_read_kind k = leb 1 k && leb k 31

-- each field that is present can be encoded
unfoldable pub data_fields_encodable : DataFields → Bool
data_fields_encodable f =
    let time = optional_fits date_time_format.encodable in
    let picoseconds = optional_fits (number 2).encodable in
    optional_fits status_code_format.encodable f.status
    && (time f.source_timestamp && (picoseconds f.source_picoseconds && (time f.server_timestamp && picoseconds f.server_picoseconds)))

-- the scalar is a Variant
abbrev pub is_variant : ScalarData → Bool
is_variant (leaf l) = false
is_variant (data_value d) = false
is_variant (variant v) = true
is_variant (diagnostic d) = false

-- how many elements there are
abbrev pub row_length : ScalarsData → ℕ
row_length no_scalars = 0
row_length (scalar s ss) = 1 + row_length ss

-- a value with all that it contains can be encoded, its nesting depth aside
abbrev mutual
  pub variant_fits : VariantData → Bool
  variant_fits null = true
  variant_fits (one s) = not (is_variant s) && scalar_fits s
  variant_fits (absent k []) = is_kind k
  variant_fits (absent k (d ∷ ds)) = false
  variant_fits (many k ss ds) = is_kind k && is_count (row_length ss) && dims_encodable ds (row_length ss) && scalars_fit k ss

  pub scalar_fits : ScalarData → Bool
  scalar_fits (leaf l) = leaf_encodable l
  scalar_fits (data_value d) = data_value_fits d
  scalar_fits (variant v) = variant_fits v
  scalar_fits (diagnostic d) = diagnostic_fits d

  -- each of the type id
  pub scalars_fit : ℕ → ScalarsData → Bool
  scalars_fit k no_scalars = true
  scalars_fit k (scalar s ss) = eqb (kind_of_scalar s) k && scalar_fits s && scalars_fit k ss

  pub data_value_fits : DataValueData → Bool
  data_value_fits (bare f) = data_fields_encodable f
  data_value_fits (valued v f) = data_fields_encodable f && variant_fits v

-- the Variant can be encoded, with a nesting depth of at most 100
abbrev pub variant_encodable : VariantData → Bool
variant_encodable v = leb (variant_depth v) most_levels && variant_fits v

-- a DataValue that can be encoded with all that it contains, with a nesting depth of at most 100
abbrev pub data_value_encodable : DataValueData → Bool
data_value_encodable d = leb (data_value_depth d) most_levels && data_value_fits d
