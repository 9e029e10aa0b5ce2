-- The nesting depth of values, and how many values a value contains.
pub use Rattle.ua_diagnostic.specs.Diagnostic.{diagnostic_depth, diagnostic_count}
use Rattle.std.specs.Prelude.{ℕ, ◌+◌, max, length}
use Rattle.ua_variant.specs.Data.{DataFields, VariantData, null, one, absent, many, ScalarData, leaf, data_value}
use Rattle.ua_variant.specs.Data.{variant, diagnostic, ScalarsData, no_scalars, scalar, DataValueData, bare, valued}
use Rattle.ua_diagnostic.specs.Parts.{there}

-- a Variant, DataValue or DiagnosticInfo is one level more than the deepest of these directly
-- within it
abbrev mutual
  pub variant_depth : VariantData → ℕ
  variant_depth null = 1
  variant_depth (one s) = 1 + scalar_depth s
  variant_depth (absent k ds) = 1
  variant_depth (many k ss ds) = 1 + scalars_depth ss

  pub scalar_depth : ScalarData → ℕ
  scalar_depth (leaf l) = 0
  scalar_depth (data_value d) = data_value_depth d
  scalar_depth (variant v) = variant_depth v
  scalar_depth (diagnostic d) = diagnostic_depth d

  pub scalars_depth : ScalarsData → ℕ
  scalars_depth no_scalars = 0
  scalars_depth (scalar s ss) = max (scalar_depth s) (scalars_depth ss)

  pub data_value_depth : DataValueData → ℕ
  data_value_depth (bare f) = 1
  data_value_depth (valued v f) = 1 + variant_depth v

-- how many of the fields of a DataValue except its value are present
abbrev pub data_fields_count : DataFields → ℕ
data_fields_count f = there f.status + there f.source_timestamp + there f.source_picoseconds + there f.server_timestamp + there f.server_picoseconds

-- a Variant, DataValue or DiagnosticInfo counts 1 plus what it contains; each other scalar, field
-- and dimension counts 1
abbrev mutual
  pub variant_count : VariantData → ℕ
  variant_count null = 1
  variant_count (one s) = 1 + scalar_count s
  variant_count (absent k ds) = 1 + length ds
  variant_count (many k ss ds) = 1 + scalars_count ss + length ds

  pub scalar_count : ScalarData → ℕ
  scalar_count (leaf l) = 1
  scalar_count (data_value d) = data_value_count d
  scalar_count (variant v) = variant_count v
  scalar_count (diagnostic d) = diagnostic_count d

  pub scalars_count : ScalarsData → ℕ
  scalars_count no_scalars = 0
  scalars_count (scalar s ss) = scalar_count s + scalars_count ss

  pub data_value_count : DataValueData → ℕ
  data_value_count (bare f) = 1 + data_fields_count f
  data_value_count (valued v f) = 1 + data_fields_count f + variant_count v
