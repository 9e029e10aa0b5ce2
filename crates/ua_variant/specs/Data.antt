-- What the values stand for, without capacities and pointers.
pub use Rattle.ua_diagnostic.specs.Diagnostic.{DiagnosticFields, DiagnosticData, innermost, around}
use Rattle.std.specs.Prelude.{ℕ, Bool, List, Option}
use lib.IntN.{ℤ}
use Rattle.ua_wire.specs.declared.float_bits.FloatBits.{FloatBits}
use Rattle.ua_builtin.specs.declared.xml_element.XmlElement.{XmlElement}
use Rattle.ua_wire.specs.declared.double_bits.DoubleBits.{DoubleBits}
use Rattle.ua_builtin.specs.declared.date_time.DateTime.{DateTime}
use Rattle.ua_builtin.specs.declared.guid.Guid.{Guid}
use Rattle.ua_builtin.specs.declared.node_id.NodeId.{NodeId}
use Rattle.ua_builtin.specs.declared.expanded_node_id.ExpandedNodeId.{ExpandedNodeId}
use Rattle.ua_builtin.specs.declared.status_code.StatusCode.{StatusCode}
use Rattle.ua_builtin.specs.declared.qualified_name.QualifiedName.{QualifiedName}
use Rattle.ua_builtin.specs.declared.localized_text.LocalizedText.{LocalizedText}
use Rattle.ua_builtin.specs.declared.extension_object.ExtensionObject.{ExtensionObject}

-- the scalars that contain no other value, one case a type id; the reserved ids 26 to 31 keep
-- theirs
pub data LeafData : Type 0 where
  boolean : Bool → LeafData
  sbyte : ℤ → LeafData
  byte : ℕ → LeafData
  int16 : ℤ → LeafData
  uint16 : ℕ → LeafData
  int32 : ℤ → LeafData
  uint32 : ℕ → LeafData
  int64 : ℤ → LeafData
  uint64 : ℕ → LeafData
  float : FloatBits → LeafData
  double : DoubleBits → LeafData
  string : Option (List ℕ) → LeafData
  date_time : DateTime → LeafData
  guid : Guid → LeafData
  byte_string : Option (List ℕ) → LeafData
  xml_element : XmlElement → LeafData
  node_id : NodeId → LeafData
  expanded_node_id : ExpandedNodeId → LeafData
  status_code : StatusCode → LeafData
  qualified_name : QualifiedName → LeafData
  localized_text : LocalizedText → LeafData
  extension_object : ExtensionObject → LeafData
  reserved : ℕ → Option (List ℕ) → LeafData

-- the fields of a DataValue except its value
pub record DataFields : Type 0 where
  pub status : Option StatusCode
  pub source_timestamp : Option DateTime
  pub source_picoseconds : Option ℕ
  pub server_timestamp : Option DateTime
  pub server_picoseconds : Option ℕ

-- an array has the type id of its elements and its dimensions; an absent one is null
mutual
  pub data VariantData : Type 0 where
    null : VariantData
    one : ScalarData → VariantData
    absent : ℕ → List ℤ → VariantData
    many : ℕ → ScalarsData → List ℤ → VariantData

  pub data ScalarData : Type 0 where
    leaf : LeafData → ScalarData
    data_value : DataValueData → ScalarData
    variant : VariantData → ScalarData
    diagnostic : DiagnosticData → ScalarData

  pub data ScalarsData : Type 0 where
    no_scalars : ScalarsData
    scalar : ScalarData → ScalarsData → ScalarsData

  pub data DataValueData : Type 0 where
    bare : DataFields → DataValueData
    valued : VariantData → DataFields → DataValueData
