-- A value of the code and the data that it stands for give each other back.
use Rattle.std.specs.Prelude.{◌≡◌, List, [], ◌∷◌, Option, Some, None, refl}
use Rattle.std.proofs.Common.{ap}
use Rattle.ua_variant.specs.Data.{LeafData, boolean, sbyte, byte, int16, uint16, int32, uint32, int64, uint64, float, double, string}
use Rattle.ua_variant.specs.Data.{date_time, guid, byte_string, xml_element, node_id, expanded_node_id, status_code, qualified_name}
use Rattle.ua_variant.specs.Data.{localized_text, extension_object, reserved, DataFields, VariantData, null, one, absent, many, ScalarData}
use Rattle.ua_variant.specs.Data.{leaf, data_value, variant, diagnostic, ScalarsData, no_scalars, scalar, DataValueData, bare, valued}
use Rattle.ua_variant.specs.View.{row, row_list, value_within, data_fields_of, data_value_of, scalar_of, variant_of}
use Rattle.ua_variant.specs.declared.values.Scalar.{Scalar}
use Rattle.ua_variant.specs.declared.values.Variant.{Variant}
use Rattle.ua_variant.specs.declared.values.DataValue.{DataValue}
use Rattle.ua_variant.specs.Values.{made_data_value, data_value_value, leaf_value, scalar_value, variant_value}

pub data_value_forth : (d : DataValueData) → data_value_of (data_value_value d) ≡ d
data_value_forth (bare f) = refl
data_value_forth (valued v f) = refl

data_back : (v : Option VariantData) (f : DataFields) → data_value_value (value_within v f) ≡ made_data_value v f
data_back None f = refl
data_back (Some v) f = refl

pub data_value_value_of : (d : DataValue) → data_value_value (data_value_of d) ≡ d
data_value_value_of d = data_back d.value (data_fields_of d)

leaf_forth : (l : LeafData) → scalar_of (leaf_value l) ≡ leaf l
leaf_forth (boolean x) = refl
leaf_forth (sbyte x) = refl
leaf_forth (byte x) = refl
leaf_forth (int16 x) = refl
leaf_forth (uint16 x) = refl
leaf_forth (int32 x) = refl
leaf_forth (uint32 x) = refl
leaf_forth (int64 x) = refl
leaf_forth (uint64 x) = refl
leaf_forth (float x) = refl
leaf_forth (double x) = refl
leaf_forth (string x) = refl
leaf_forth (date_time x) = refl
leaf_forth (guid x) = refl
leaf_forth (byte_string x) = refl
leaf_forth (xml_element x) = refl
leaf_forth (node_id x) = refl
leaf_forth (expanded_node_id x) = refl
leaf_forth (status_code x) = refl
leaf_forth (qualified_name x) = refl
leaf_forth (localized_text x) = refl
leaf_forth (extension_object x) = refl
leaf_forth (reserved k x) = refl

pub scalar_forth : (s : ScalarData) → scalar_of (scalar_value s) ≡ s
scalar_forth (leaf l) = leaf_forth l
scalar_forth (data_value d) = refl
scalar_forth (variant v) = refl
scalar_forth (diagnostic d) = refl

pub scalar_value_of : (s : Scalar) → scalar_value (scalar_of s) ≡ s
scalar_value_of (Scalar.Boolean x) = refl
scalar_value_of (Scalar.SByte x) = refl
scalar_value_of (Scalar.Byte x) = refl
scalar_value_of (Scalar.Int16 x) = refl
scalar_value_of (Scalar.UInt16 x) = refl
scalar_value_of (Scalar.Int32 x) = refl
scalar_value_of (Scalar.UInt32 x) = refl
scalar_value_of (Scalar.Int64 x) = refl
scalar_value_of (Scalar.UInt64 x) = refl
scalar_value_of (Scalar.Float x) = refl
scalar_value_of (Scalar.Double x) = refl
scalar_value_of (Scalar.String x) = refl
scalar_value_of (Scalar.DateTime x) = refl
scalar_value_of (Scalar.Guid x) = refl
scalar_value_of (Scalar.ByteString x) = refl
scalar_value_of (Scalar.XmlElement x) = refl
scalar_value_of (Scalar.NodeId x) = refl
scalar_value_of (Scalar.ExpandedNodeId x) = refl
scalar_value_of (Scalar.StatusCode x) = refl
scalar_value_of (Scalar.QualifiedName x) = refl
scalar_value_of (Scalar.LocalizedText x) = refl
scalar_value_of (Scalar.ExtensionObject x) = refl
scalar_value_of (Scalar.DataValue d) = refl
scalar_value_of (Scalar.Variant v) = refl
scalar_value_of (Scalar.DiagnosticInfo d) = refl
scalar_value_of (Scalar.Reserved k x) = refl

pub row_back : (ss : ScalarsData) → row (row_list ss) ≡ ss
row_back no_scalars = refl
row_back (scalar s ss) = ap (scalar s) (row_back ss)

pub row_forth : (ss : List ScalarData) → row_list (row ss) ≡ ss
row_forth [] = refl
row_forth (s ∷ ss) = ap (λ (xs : List ScalarData). s ∷ xs) (row_forth ss)

pub variant_forth : (v : VariantData) → variant_of (variant_value v) ≡ v
variant_forth null = refl
variant_forth (one s) = ap one (scalar_forth s)
variant_forth (absent k ds) = refl
variant_forth (many k ss ds) = ap (λ (xs : ScalarsData). many k xs ds) (row_back ss)

pub variant_value_of : (v : Variant) → variant_value (variant_of v) ≡ v
variant_value_of Variant.Null = refl
variant_value_of (Variant.One s) = ap (λ (x : Scalar). Variant.One x) (scalar_value_of s)
variant_value_of (Variant.Many k None ds) = refl
variant_value_of (Variant.Many k (Some ss) ds) = ap (λ (xs : List ScalarData). Variant.Many k (Some xs) ds) (row_forth ss)
