-- The ids of the built-in types (OPC 10000-6, 5.1.2).
use Rattle.std.specs.Prelude.{◌≡◌, ℕ}
use Rattle.ua_builtin.specs.declared.built_in_type.BuiltInType.{BuiltInType}
use Rattle.ua_builtin.specs.declared.built_in_type.BuiltInType.TheVariants.{Boolean, SByte, Byte, Int16, UInt16, Int32, UInt32}
use Rattle.ua_builtin.specs.declared.built_in_type.BuiltInType.TheVariants.{Int64, UInt64, Float, Double, String, DateTime}
use Rattle.ua_builtin.specs.declared.built_in_type.BuiltInType.TheVariants.{Guid, ByteString, XmlElement, NodeId, ExpandedNodeId, StatusCode, QualifiedName}
use Rattle.ua_builtin.specs.declared.built_in_type.BuiltInType.TheVariants.{LocalizedText, ExtensionObject, DataValue, Variant, DiagnosticInfo}

-- the id of a type
abbrev pub id_of_type : BuiltInType → ℕ
id_of_type Boolean = 1
id_of_type SByte = 2
id_of_type Byte = 3
id_of_type Int16 = 4
id_of_type UInt16 = 5
id_of_type Int32 = 6
id_of_type UInt32 = 7
id_of_type Int64 = 8
id_of_type UInt64 = 9
id_of_type Float = 10
id_of_type Double = 11
id_of_type String = 12
id_of_type DateTime = 13
id_of_type Guid = 14
id_of_type ByteString = 15
id_of_type XmlElement = 16
id_of_type NodeId = 17
id_of_type ExpandedNodeId = 18
id_of_type StatusCode = 19
id_of_type QualifiedName = 20
id_of_type LocalizedText = 21
id_of_type ExtensionObject = 22
id_of_type DataValue = 23
id_of_type Variant = 24
id_of_type DiagnosticInfo = 25

-- no type has this id
abbrev pub HasNoType : ℕ → Type 0
HasNoType id = (kind : BuiltInType) → id_of_type kind ≡ id → ⊥
