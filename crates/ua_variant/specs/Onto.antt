-- Decoding a DataValue onto the end of others.
use Rattle.std.specs.Prelude.{ℕ, Bool, List, [], ◌∷◌, ◌++◌, Some}
use Rattle.ua_builtin.specs.Exact.{◌>>=◌, image_read}
use Rattle.ua_diagnostic.specs.Parts.{Decoder, optional_read}
use Rattle.ua_variant.specs.Data.{VariantData, one, leaf, DataValueData, valued}
use Rattle.ua_variant.specs.declared.values.DataValue.{DataValue}
use Rattle.ua_variant.specs.Fields.{data_fields}
use Rattle.ua_variant.specs.Leaf.{leaf_at}
use Rattle.ua_variant.specs.Values.{data_value_value}
use Rattle.ua_variant.specs.View.{value_within}

-- these values, followed by the one for the data
abbrev pub with_last : List DataValue → DataValueData → List DataValue
with_last items d = items ++ data_value_value d ∷ []

-- after the mask m of a DataValue: a value, which inner decodes, if it is announced, and the other
-- fields
abbrev pub announced_at : ℕ → Bool → Decoder VariantData → Decoder DataValueData
announced_at m set inner octets = optional_read set inner octets >>= λ v. (data_fields m).decode v.1 >>= λ f. Some (value_within v.0 f.0, f.1)

-- after the mask m: a value, which inner decodes, and the other fields
abbrev pub valued_at : ℕ → Decoder VariantData → Decoder DataValueData
valued_at m inner octets = inner octets >>= λ v. (data_fields m).decode v.1 >>= λ f. Some (valued v.0 f.0, f.1)

-- after the mask m: a scalar of the type id that contains no other value, and the other fields
abbrev pub leaf_valued_at : ℕ → ℕ → Decoder DataValueData
leaf_valued_at m kind octets = image_read leaf (leaf_at kind) octets >>= λ s. (data_fields m).decode s.1 >>= λ f. Some (valued (one s.0) f.0, f.1)
