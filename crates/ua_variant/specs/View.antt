-- The data that the values of the code stand for, and the values that stand for data.
pub use Rattle.ua_diagnostic.specs.View.{diagnostic_fields_of, diagnostic_of}
use Rattle.std.specs.Prelude.{◌≡◌, ℕ, List, [], ◌∷◌, map, Option, Some, None}
use lib.IntN.{ℤ}
use Rattle.ua_variant.specs.Data.{boolean, sbyte, byte, int16, uint16, int32, uint32, int64, uint64, float, double, string, date_time}
use Rattle.ua_variant.specs.Data.{guid, byte_string, xml_element, node_id, expanded_node_id, status_code, qualified_name, localized_text}
use Rattle.ua_variant.specs.Data.{extension_object, reserved, DataFields, VariantData, null, one, absent, many, ScalarData, leaf}
use Rattle.ua_variant.specs.Data.{data_value, variant, diagnostic, ScalarsData, no_scalars, scalar, DataValueData, bare, valued}
use Rattle.ua_variant.specs.declared.values.Scalar.{Scalar}
use Rattle.ua_variant.specs.declared.values.Variant.{Variant}
use Rattle.ua_variant.specs.declared.values.DataValue.{DataValue}
use Rattle.ua_variant.specs.declared.values.Elements.{Elements}
use Rattle.ua_variant.specs.Packed.{packed_leaves}

-- the elements of an array, as a list and as data
abbrev pub row : List ScalarData → ScalarsData
row [] = no_scalars
row (s ∷ ss) = scalar s (row ss)

-- the elements of an array, as a list
abbrev pub row_list : ScalarsData → List ScalarData
row_list no_scalars = []
row_list (scalar s ss) = s ∷ row_list ss

-- the DataValue of these fields, with a value if there is one
abbrev pub value_within : Option VariantData → DataFields → DataValueData
value_within None f = bare f
value_within (Some v) f = valued v f

-- the fields of a DataValue of the code except its value
abbrev pub data_fields_of : DataValue → DataFields
data_fields_of d = record {
  status = d.status;
  source_timestamp = d.source_timestamp;
  source_picoseconds = d.source_picoseconds;
  server_timestamp = d.server_timestamp;
  server_picoseconds = d.server_picoseconds;
}

-- the data that a DataValue of the code stands for
abbrev pub data_value_of : DataValue → DataValueData
data_value_of d = value_within d.value (data_fields_of d)

-- the data that a scalar of the code stands for
abbrev pub scalar_of : Scalar → ScalarData
scalar_of (Scalar.Boolean x) = leaf (boolean x)
scalar_of (Scalar.SByte x) = leaf (sbyte x)
scalar_of (Scalar.Byte x) = leaf (byte x)
scalar_of (Scalar.Int16 x) = leaf (int16 x)
scalar_of (Scalar.UInt16 x) = leaf (uint16 x)
scalar_of (Scalar.Int32 x) = leaf (int32 x)
scalar_of (Scalar.UInt32 x) = leaf (uint32 x)
scalar_of (Scalar.Int64 x) = leaf (int64 x)
scalar_of (Scalar.UInt64 x) = leaf (uint64 x)
scalar_of (Scalar.Float x) = leaf (float x)
scalar_of (Scalar.Double x) = leaf (double x)
scalar_of (Scalar.String x) = leaf (string x)
scalar_of (Scalar.DateTime x) = leaf (date_time x)
scalar_of (Scalar.Guid x) = leaf (guid x)
scalar_of (Scalar.ByteString x) = leaf (byte_string x)
scalar_of (Scalar.XmlElement x) = leaf (xml_element x)
scalar_of (Scalar.NodeId x) = leaf (node_id x)
scalar_of (Scalar.ExpandedNodeId x) = leaf (expanded_node_id x)
scalar_of (Scalar.StatusCode x) = leaf (status_code x)
scalar_of (Scalar.QualifiedName x) = leaf (qualified_name x)
scalar_of (Scalar.LocalizedText x) = leaf (localized_text x)
scalar_of (Scalar.ExtensionObject x) = leaf (extension_object x)
scalar_of (Scalar.DataValue d) = data_value d
scalar_of (Scalar.Variant v) = variant v
scalar_of (Scalar.DiagnosticInfo d) = diagnostic d
scalar_of (Scalar.Reserved k x) = leaf (reserved k x)

-- the elements of an array, as they are held
abbrev pub elements_of : Elements → List ScalarData
elements_of (Elements.Packed p) = map leaf (packed_leaves p)
elements_of (Elements.Mixed v) = map scalar_of v.items

-- the array of the type id k with these elements and dimensions; a null one if the elements are
-- null
abbrev pub many_of : ℕ → Option (List ScalarData) → List ℤ → VariantData
many_of k None ds = absent k ds
many_of k (Some ss) ds = many k (row ss) ds

-- the data that a Variant of the code stands for
abbrev pub variant_of : Variant → VariantData
variant_of Variant.Null = null
variant_of (Variant.One s) = one (scalar_of s)
variant_of (Variant.Many k ss ds) = many_of k ss ds

-- a Variant among other Variants: null if nothing is kept of it
abbrev pub or_null : Option VariantData → VariantData
or_null None = null
or_null (Some v) = v

-- what is kept of a Variant among other Variants is not null
abbrev pub KeepsValue : Option VariantData → Type 0
KeepsValue None = Unit {0}
KeepsValue (Some v) = v ≡ null → ⊥

-- no field of a DataValue
abbrev pub no_data_fields : DataFields
no_data_fields = record {
  status = None;
  source_timestamp = None;
  source_picoseconds = None;
  server_timestamp = None;
  server_picoseconds = None;
}

-- a DataValue among Variants: one without any field if nothing is kept of it
abbrev pub or_bare : Option DataValueData → DataValueData
or_bare None = bare no_data_fields
or_bare (Some d) = d

-- what is kept of a DataValue among Variants has a field
abbrev pub KeepsDataFields : Option DataValueData → Type 0
KeepsDataFields None = Unit {0}
KeepsDataFields (Some d) = d ≡ bare no_data_fields → ⊥
