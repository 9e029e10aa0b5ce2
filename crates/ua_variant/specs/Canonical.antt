-- The canonical encoding.
use Rattle.std.specs.Prelude.{ℕ, ◌+◌, false, List, [], ◌∷◌, ◌++◌}
use Rattle.ua_builtin.specs.Number.{number_octets}
use Rattle.ua_variant.specs.Data.{DataFields, VariantData, null, one, absent, many, ScalarData, leaf, data_value}
use Rattle.ua_variant.specs.Data.{variant, diagnostic, ScalarsData, no_scalars, scalar, DataValueData, bare, valued}
use Rattle.ua_variant.specs.Leaf.{leaf_canonical}
use Rattle.ua_variant.specs.Fields.{data_fields, data_flags}
use Rattle.ua_variant.specs.Encodable.{kind_of_scalar, row_length}
use Rattle.ua_variant.specs.Encoding.{array_octet}
use Rattle.ua_diagnostic.specs.Dimensions.{null_count_octets, has_dims, dims_canonical}
use Rattle.ua_diagnostic.specs.Diagnostic.{diagnostic_canonical}

-- the canonical encoding of the fields of a DataValue except its value, after the mask
unfoldable pub data_fields_canonical : DataFields → List ℕ
data_fields_canonical f = (data_fields (data_flags f)).canonical f

-- the canonical encoding of a Variant, a scalar, the elements of an array, and a DataValue
abbrev mutual
  pub variant_canonical : VariantData → List ℕ
  variant_canonical null = 0 ∷ []
  variant_canonical (one s) = kind_of_scalar s ∷ scalar_canonical s
  variant_canonical (absent k ds) = array_octet false k ∷ null_count_octets
  variant_canonical (many k ss ds) = array_octet (has_dims ds) k ∷ (number_octets 4 (row_length ss) ++ (row_canonical ss ++ dims_canonical ds))

  pub scalar_canonical : ScalarData → List ℕ
  scalar_canonical (leaf l) = leaf_canonical l
  scalar_canonical (data_value d) = data_value_canonical d
  scalar_canonical (variant v) = variant_canonical v
  scalar_canonical (diagnostic d) = diagnostic_canonical d

  pub row_canonical : ScalarsData → List ℕ
  row_canonical no_scalars = []
  row_canonical (scalar s ss) = scalar_canonical s ++ row_canonical ss

  pub data_value_canonical : DataValueData → List ℕ
  data_value_canonical (bare f) = data_flags f ∷ data_fields_canonical f
  data_value_canonical (valued v f) = (data_flags f + 0x01) ∷ (variant_canonical v ++ data_fields_canonical f)
