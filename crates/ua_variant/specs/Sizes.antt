-- What is directly in a value is smaller than the value.
use Rattle.std.specs.Prelude.{List, [], ◌∷◌, Option, Some, None, map, option_map, length, ◌+◌, ◌*◌, ◌≤◌, max}
use Rattle.std.proofs.Common.{Box, Global, zero-le, le_refl, le_trans}
use Rattle.std.proofs.Math.Nat.{max-le}
use Rattle.ua_diagnostic.proofs.Weights.{twice_within, twice_more, twice_before, twice_first, twice_second}
use denote.Param.Weighed.{most}
use Rattle.ua_variant.specs.Data.{DataFields, VariantData}
use Rattle.ua_variant.specs.Measure.{data_fields_count, variant_count, scalar_count, scalars_count, data_value_count}
use Rattle.ua_variant.specs.View.{row, value_within, data_fields_of, data_value_of, scalar_of, elements_of, variant_of, or_null, or_bare}
use Rattle.ua_variant.specs.declared.values.Scalar.{Scalar}
use Rattle.ua_variant.specs.declared.values.Variant.{Variant}
use Rattle.ua_variant.specs.declared.values.DataValue.{DataValue}
use Rattle.ua_variant.specs.declared.values.Elements.{Elements}
use Rattle.ua_variant.specs.declared.values.BoxedDataValue.TheDeep.{deep-Variant, deep-Scalar, deep-DataValue}
use Rattle.ua_variant.specs.declared.values.BoxedDataValue.TheDeep.{deep-Elements, deep-BoxedVariant, deep-BoxedDataValue}
use Rattle.ua_variant.specs.Values.{made_data_value}

data_value_at : (v : Option VariantData) (f : DataFields) → deep-DataValue (made_data_value v f) ≤ 2 * data_value_count (value_within v f)
data_value_at None f = zero-le
data_value_at (Some v) f = max-le (max-le (twice_within (data_fields_count f) (variant_count v)) zero-le) zero-le

pub data_value_falls : (d : DataValue) → deep-DataValue d ≤ 2 * data_value_count (data_value_of d)
data_value_falls d = data_value_at d.value (data_fields_of d)

pub boxed_data_value_falls : (o : Option (Box DataValue Global))
    → deep-BoxedDataValue (record { inner = o }) ≤ 2 * data_value_count (or_bare (option_map (λ b. data_value_of b.value) o))
boxed_data_value_falls None = zero-le
boxed_data_value_falls (Some b) = max-le (max-le (data_value_falls b.value) zero-le) zero-le

pub scalar_falls : (s : Scalar) → deep-Scalar s ≤ 2 * scalar_count (scalar_of s) + 1
scalar_falls (Scalar.Boolean x) = zero-le
scalar_falls (Scalar.SByte x) = zero-le
scalar_falls (Scalar.Byte x) = zero-le
scalar_falls (Scalar.Int16 x) = zero-le
scalar_falls (Scalar.UInt16 x) = zero-le
scalar_falls (Scalar.Int32 x) = zero-le
scalar_falls (Scalar.UInt32 x) = zero-le
scalar_falls (Scalar.Int64 x) = zero-le
scalar_falls (Scalar.UInt64 x) = zero-le
scalar_falls (Scalar.Float x) = zero-le
scalar_falls (Scalar.Double x) = zero-le
scalar_falls (Scalar.String x) = zero-le
scalar_falls (Scalar.DateTime x) = zero-le
scalar_falls (Scalar.Guid x) = zero-le
scalar_falls (Scalar.ByteString x) = zero-le
scalar_falls (Scalar.XmlElement x) = zero-le
scalar_falls (Scalar.NodeId x) = zero-le
scalar_falls (Scalar.ExpandedNodeId x) = zero-le
scalar_falls (Scalar.StatusCode x) = zero-le
scalar_falls (Scalar.QualifiedName x) = zero-le
scalar_falls (Scalar.LocalizedText x) = zero-le
scalar_falls (Scalar.ExtensionObject x) = zero-le
scalar_falls (Scalar.DataValue d) = max-le (le_refl _) zero-le
scalar_falls (Scalar.Variant v) = max-le (le_refl _) zero-le
scalar_falls (Scalar.DiagnosticInfo d) = zero-le
scalar_falls (Scalar.Reserved k x) = zero-le

pub scalars_fall : (ss : List Scalar) → most deep-Scalar ss ≤ 2 * scalars_count (row (map scalar_of ss)) + 1
scalars_fall [] = zero-le
scalars_fall (s ∷ ss) = max-le (twice_first (deep-Scalar s) (scalar_count (scalar_of s)) (scalars_count (row (map scalar_of ss))) (scalar_falls s))
    (twice_second (most deep-Scalar ss) (scalar_count (scalar_of s)) (scalars_count (row (map scalar_of ss))) (scalars_fall ss))

pub elements_fall : (e : Elements) → deep-Elements e ≤ 2 * scalars_count (row (elements_of e)) + 1
elements_fall (Elements.Packed p) = zero-le
elements_fall (Elements.Mixed v) = max-le (scalars_fall v.items) zero-le

pub variant_falls : (v : Variant) → max (deep-Variant v) 0 ≤ 2 * variant_count (variant_of v)
variant_falls Variant.Null = zero-le
variant_falls (Variant.One s) = max-le (max-le (le_trans (scalar_falls s) (twice_more (scalar_count (scalar_of s)))) zero-le) zero-le
variant_falls (Variant.Many k None ds) = zero-le
variant_falls (Variant.Many k (Some ss) ds) = max-le (max-le (max-le (twice_before (length ds) (scalars_count (row ss))) zero-le) zero-le) zero-le

pub boxed_variant_falls : (o : Option (Box Variant Global))
    → deep-BoxedVariant (record { inner = o }) ≤ 2 * variant_count (or_null (option_map (λ b. variant_of b.value) o))
boxed_variant_falls None = zero-le
boxed_variant_falls (Some b) = max-le (variant_falls b.value) zero-le
