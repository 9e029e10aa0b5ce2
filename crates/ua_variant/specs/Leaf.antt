-- Scalars that contain no other value: their type ids and encodings.
use Rattle.std.specs.Prelude.{ℕ, Bool, ◌&&◌, cond, leb, eqb, List, Option, None}
use Rattle.std.specs.Int.{w8, w16, w32, w64}
use Rattle.ua_builtin.specs.Exact.{image_read}
use Rattle.ua_builtin.specs.Format.{Flat}
use Rattle.ua_builtin.specs.Join.{number, such}
use Rattle.ua_builtin.specs.Boolean.{boolean as boolean_format}
use Rattle.ua_builtin.specs.Signed.{signed}
use Rattle.ua_builtin.specs.FloatBits.{float_bits}
use Rattle.ua_builtin.specs.DoubleBits.{double_bits}
use Rattle.ua_builtin.specs.Counted.{text, counted}
use Rattle.ua_builtin.specs.DateTime.{date_time as date_time_format}
use Rattle.ua_builtin.specs.Guid.{guid as guid_format}
use Rattle.ua_builtin.specs.XmlElement.{xml_element as xml_element_format}
use Rattle.ua_builtin.specs.NodeId.{node_id as node_id_format}
use Rattle.ua_builtin.specs.ExpandedNodeId.{expanded_node_id as expanded_node_id_format}
use Rattle.ua_builtin.specs.Status.{status_code as status_code_format}
use Rattle.ua_builtin.specs.QualifiedName.{qualified_name as qualified_name_format}
use Rattle.ua_builtin.specs.LocalizedText.{localized_text as localized_text_format}
use Rattle.ua_builtin.specs.ExtensionObject.{extension_object as extension_object_format}
use Rattle.ua_variant.specs.Data.{LeafData, boolean, sbyte, byte, int16, uint16, int32, uint32, int64, uint64, float, double, string, date_time, guid}
use Rattle.ua_variant.specs.Data.{byte_string, xml_element, node_id, expanded_node_id, status_code, qualified_name, localized_text, extension_object, reserved}
use Rattle.ua_diagnostic.specs.Parts.{unwritten, Decoder}

-- the type id (OPC 10000-6, 5.1.2)
abbrev pub leaf_kind : LeafData → ℕ
leaf_kind (boolean x) = 1
leaf_kind (sbyte x) = 2
leaf_kind (byte x) = 3
leaf_kind (int16 x) = 4
leaf_kind (uint16 x) = 5
leaf_kind (int32 x) = 6
leaf_kind (uint32 x) = 7
leaf_kind (int64 x) = 8
leaf_kind (uint64 x) = 9
leaf_kind (float x) = 10
leaf_kind (double x) = 11
leaf_kind (string x) = 12
leaf_kind (date_time x) = 13
leaf_kind (guid x) = 14
leaf_kind (byte_string x) = 15
leaf_kind (xml_element x) = 16
leaf_kind (node_id x) = 17
leaf_kind (expanded_node_id x) = 18
leaf_kind (status_code x) = 19
leaf_kind (qualified_name x) = 20
leaf_kind (localized_text x) = 21
leaf_kind (extension_object x) = 22
leaf_kind (reserved k x) = k

-- the type ids of what contains other values: DataValue, Variant, DiagnosticInfo
abbrev pub holds_values : ℕ → Bool
holds_values k = leb 23 k && leb k 25

-- the reserved type ids
abbrev pub is_reserved : ℕ → Bool
is_reserved k = leb 26 k && leb k 31

-- bytes under a reserved id, as a ByteString's; they are not encoded
abbrev pub reserved_octets : ℕ → Flat (Option (List ℕ))
reserved_octets k = unwritten (such (λ x. is_reserved k) counted)

-- a value with the format of its type
pub record Typed : Type 1 where
  pub Of : Type 0
  pub format : Flat Of
  pub value : Of

-- this value with this format
abbrev pub typed : {A : Type 0} → Flat A → A → Typed
typed {A} format value = record { Of = A; format = format; value = value }

-- the type of each, as its format (OPC 10000-6, 5.2.2)
abbrev pub leaf_typed : LeafData → Typed
leaf_typed (boolean x) = typed boolean_format x
leaf_typed (sbyte x) = typed (signed w8) x
leaf_typed (byte x) = typed (number 1) x
leaf_typed (int16 x) = typed (signed w16) x
leaf_typed (uint16 x) = typed (number 2) x
leaf_typed (int32 x) = typed (signed w32) x
leaf_typed (uint32 x) = typed (number 4) x
leaf_typed (int64 x) = typed (signed w64) x
leaf_typed (uint64 x) = typed (number 8) x
leaf_typed (float x) = typed float_bits x
leaf_typed (double x) = typed double_bits x
leaf_typed (string x) = typed text x
leaf_typed (date_time x) = typed date_time_format x
leaf_typed (guid x) = typed guid_format x
leaf_typed (byte_string x) = typed counted x
leaf_typed (xml_element x) = typed xml_element_format x
leaf_typed (node_id x) = typed node_id_format x
leaf_typed (expanded_node_id x) = typed expanded_node_id_format x
leaf_typed (status_code x) = typed status_code_format x
leaf_typed (qualified_name x) = typed qualified_name_format x
leaf_typed (localized_text x) = typed localized_text_format x
leaf_typed (extension_object x) = typed extension_object_format x
leaf_typed (reserved k x) = typed (reserved_octets k) x

-- the bytes encode the scalar in the format of its type
abbrev pub EncodesLeaf : LeafData → List ℕ → Type 0
EncodesLeaf l b = (leaf_typed l).format.encodes (leaf_typed l).value b

-- the scalar can be encoded
abbrev pub leaf_encodable : LeafData → Bool
leaf_encodable l = (leaf_typed l).format.encodable (leaf_typed l).value

-- the canonical encoding of the scalar
abbrev pub leaf_canonical : LeafData → List ℕ
leaf_canonical l = (leaf_typed l).format.canonical (leaf_typed l).value

-- ---- reading, by the type id

-- a scalar of the type id k, in the format of its type; nothing if k is not the id of such a scalar
unfoldable pub leaf_at : ℕ → Decoder LeafData
leaf_at k octets =
    cond (is_reserved k) (image_read (reserved k) counted.decode octets) (
    cond (eqb k 1) (image_read boolean boolean_format.decode octets) (
    cond (eqb k 2) (image_read sbyte (signed w8).decode octets) (
    cond (eqb k 3) (image_read byte (number 1).decode octets) (
    cond (eqb k 4) (image_read int16 (signed w16).decode octets) (
    cond (eqb k 5) (image_read uint16 (number 2).decode octets) (
    cond (eqb k 6) (image_read int32 (signed w32).decode octets) (
    cond (eqb k 7) (image_read uint32 (number 4).decode octets) (
    cond (eqb k 8) (image_read int64 (signed w64).decode octets) (
    cond (eqb k 9) (image_read uint64 (number 8).decode octets) (
    cond (eqb k 10) (image_read float float_bits.decode octets) (
    cond (eqb k 11) (image_read double double_bits.decode octets) (
    cond (eqb k 12) (image_read string text.decode octets) (
    cond (eqb k 13) (image_read date_time date_time_format.decode octets) (
    cond (eqb k 14) (image_read guid guid_format.decode octets) (
    cond (eqb k 15) (image_read byte_string counted.decode octets) (
    cond (eqb k 16) (image_read xml_element xml_element_format.decode octets) (
    cond (eqb k 17) (image_read node_id node_id_format.decode octets) (
    cond (eqb k 18) (image_read expanded_node_id expanded_node_id_format.decode octets) (
    cond (eqb k 19) (image_read status_code status_code_format.decode octets) (
    cond (eqb k 20) (image_read qualified_name qualified_name_format.decode octets) (
    cond (eqb k 21) (image_read localized_text localized_text_format.decode octets) (
    cond (eqb k 22) (image_read extension_object extension_object_format.decode octets) (
    None)))))))))))))))))))))))
