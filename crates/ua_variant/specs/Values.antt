-- The values of the code that stand for data: each data is that of one value.
use Rattle.std.specs.Prelude.{Option, Some, None}
use Rattle.ua_variant.specs.Data.{LeafData, boolean, sbyte, byte, int16, uint16, int32, uint32, int64, uint64, float, double}
use Rattle.ua_variant.specs.Data.{string, date_time, guid, byte_string, xml_element, node_id, expanded_node_id, status_code}
use Rattle.ua_variant.specs.Data.{qualified_name, localized_text, extension_object, reserved, DataFields, VariantData, null, one}
use Rattle.ua_variant.specs.Data.{absent, many, ScalarData, leaf, data_value, variant, diagnostic, DataValueData, bare, valued}
use Rattle.ua_variant.specs.View.{row_list}
use Rattle.ua_variant.specs.declared.values.Scalar.{Scalar}
use Rattle.ua_variant.specs.declared.values.Variant.{Variant}
use Rattle.ua_variant.specs.declared.values.DataValue.{DataValue}

-- the DataValue of the code with these fields, and with a value if there is one
abbrev pub made_data_value : Option VariantData → DataFields → DataValue
made_data_value v f = record {
  value = v;
  status = f.status;
  source_timestamp = f.source_timestamp;
  source_picoseconds = f.source_picoseconds;
  server_timestamp = f.server_timestamp;
  server_picoseconds = f.server_picoseconds;
}

-- the DataValue of the code that is for the data
abbrev pub data_value_value : DataValueData → DataValue
data_value_value (bare f) = made_data_value None f
data_value_value (valued v f) = made_data_value (Some v) f

-- the scalar of the code that is for one that contains no other value
abbrev pub leaf_value : LeafData → Scalar
leaf_value (boolean x) = Scalar.Boolean x
leaf_value (sbyte x) = Scalar.SByte x
leaf_value (byte x) = Scalar.Byte x
leaf_value (int16 x) = Scalar.Int16 x
leaf_value (uint16 x) = Scalar.UInt16 x
leaf_value (int32 x) = Scalar.Int32 x
leaf_value (uint32 x) = Scalar.UInt32 x
leaf_value (int64 x) = Scalar.Int64 x
leaf_value (uint64 x) = Scalar.UInt64 x
leaf_value (float x) = Scalar.Float x
leaf_value (double x) = Scalar.Double x
leaf_value (string x) = Scalar.String x
leaf_value (date_time x) = Scalar.DateTime x
leaf_value (guid x) = Scalar.Guid x
leaf_value (byte_string x) = Scalar.ByteString x
leaf_value (xml_element x) = Scalar.XmlElement x
leaf_value (node_id x) = Scalar.NodeId x
leaf_value (expanded_node_id x) = Scalar.ExpandedNodeId x
leaf_value (status_code x) = Scalar.StatusCode x
leaf_value (qualified_name x) = Scalar.QualifiedName x
leaf_value (localized_text x) = Scalar.LocalizedText x
leaf_value (extension_object x) = Scalar.ExtensionObject x
leaf_value (reserved k x) = Scalar.Reserved k x

-- the scalar of the code that is for the data
abbrev pub scalar_value : ScalarData → Scalar
scalar_value (leaf l) = leaf_value l
scalar_value (data_value d) = Scalar.DataValue d
scalar_value (variant v) = Scalar.Variant v
scalar_value (diagnostic d) = Scalar.DiagnosticInfo d

-- the Variant of the code that is for the data
abbrev pub variant_value : VariantData → Variant
variant_value null = Variant.Null
variant_value (one s) = Variant.One (scalar_value s)
variant_value (absent k ds) = Variant.Many k None ds
variant_value (many k ss ds) = Variant.Many k (Some (row_list ss)) ds
