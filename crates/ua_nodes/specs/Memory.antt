-- How much memory values take beside the fixed place of a node: an upper bound, in bytes, of what a
-- value that was decoded asks of the allocator. An array of numbers takes the bytes of its numbers;
-- any other element has a place of 56 bytes, and what it holds on the heap besides.
use Rattle.std.specs.Prelude.{ℕ, ◌+◌, ◌*◌, min, List, [], ◌∷◌, length, Option, None, Some}
use Rattle.ua_builtin.specs.declared.extension_object.ExtensionBody.{ExtensionBody}
use Rattle.ua_builtin.specs.declared.extension_object.ExtensionBody.TheVariants.{Absent, ByteString, Xml}
use Rattle.ua_builtin.specs.declared.node_id.Identifier.{Identifier}
use Rattle.ua_builtin.specs.declared.node_id.Identifier.TheVariants.{Numeric, Text, Guid, Opaque}
use Rattle.ua_diagnostic.specs.Diagnostic.{DiagnosticData, innermost, around}
use Rattle.ua_variant.specs.Data.{LeafData, string, byte_string, xml_element, node_id, expanded_node_id, qualified_name}
use Rattle.ua_variant.specs.Data.{localized_text, extension_object, reserved, VariantData, null, one, absent, many, ScalarData, leaf}
use Rattle.ua_variant.specs.Data.{data_value, variant, diagnostic, ScalarsData, no_scalars, scalar, DataValueData, bare, valued}
use Rattle.ua_variant.specs.Encodable.{row_length}
use Rattle.ua_nodes.specs.Attribute.{behind_number}
use Rattle.ua_nodes.specs.Write.{content_or}

-- ---- places

-- the bytes of an element in its array, where they are fewer than those of any other element
abbrev pub packed_places : List (ℕ × ℕ)
packed_places =
    (1, 1)
    ∷ (2, 1)
    ∷ (3, 1)
    ∷ (4, 2)
    ∷ (5, 2)
    ∷ (6, 4)
    ∷ (7, 4)
    ∷ (8, 8)
    ∷ (9, 8)
    ∷ (10, 4)
    ∷ (11, 8)
    ∷ (13, 8)
    ∷ (14, 16)
    ∷ (19, 4)
    ∷ []

-- the bytes of an element of this type id in its array
abbrev pub element_place : ℕ → ℕ
element_place kind = content_or (behind_number kind packed_places) 56

-- ---- what lies on the heap

-- a text or a string of bytes, with what the allocator adds
abbrev pub text_memory : Option (List ℕ) → ℕ
text_memory None = 0
text_memory (Some text) = length text + 32

abbrev pub identifier_memory : Identifier → ℕ
identifier_memory (Numeric n) = 0
identifier_memory (Text text) = text_memory text
identifier_memory (Guid id) = 0
identifier_memory (Opaque octets) = text_memory octets

abbrev pub body_memory : ExtensionBody → ℕ
body_memory Absent = 0
body_memory (ByteString octets) = text_memory octets
body_memory (Xml element) = text_memory element.octets

-- a scalar that holds no other value: three of the types are boxed
abbrev pub leaf_memory : LeafData → ℕ
leaf_memory (string text) = text_memory text
leaf_memory (byte_string octets) = text_memory octets
leaf_memory (xml_element element) = text_memory element.octets
leaf_memory (node_id id) = identifier_memory id.identifier
leaf_memory (expanded_node_id id) = identifier_memory id.node_id.identifier + text_memory id.namespace_uri + 112
leaf_memory (qualified_name name) = text_memory name.name
leaf_memory (localized_text text) = text_memory text.locale + text_memory text.text + 112
leaf_memory (extension_object object) = identifier_memory object.type_id.identifier + body_memory object.body + 112
leaf_memory (reserved kind octets) = text_memory octets
leaf_memory other = 0

-- a DiagnosticInfo in a box, with its inner ones
abbrev pub diagnostic_memory : DiagnosticData → ℕ
diagnostic_memory (innermost f) = text_memory f.additional_info + 128
diagnostic_memory (around f d) = diagnostic_memory d + (text_memory f.additional_info + 128)

-- a Variant, of an array the places of its elements too; a Variant within another is in a box of 80
-- bytes, a DataValue in one of 144
abbrev mutual
  pub variant_memory : VariantData → ℕ
  variant_memory null = 0
  variant_memory (one s) = scalar_memory s
  variant_memory (absent k ds) = 4 * length ds
  variant_memory (many k ss ds) = element_place k * row_length ss + scalars_memory ss + 4 * length ds

  pub scalar_memory : ScalarData → ℕ
  scalar_memory (leaf l) = leaf_memory l
  scalar_memory (data_value d) = data_value_memory d
  scalar_memory (variant v) = variant_memory v + 80
  scalar_memory (diagnostic d) = diagnostic_memory d

  pub scalars_memory : ScalarsData → ℕ
  scalars_memory no_scalars = 0
  scalars_memory (scalar s ss) = scalar_memory s + scalars_memory ss

  pub data_value_memory : DataValueData → ℕ
  data_value_memory (bare f) = 144
  data_value_memory (valued v f) = variant_memory v + 144

-- the greatest number of bytes that is told
abbrev pub most_memory : ℕ
most_memory = 18446744073709551615

-- the memory of a value, as it is measured
abbrev pub value_memory : VariantData → ℕ
value_memory v = min (variant_memory v) most_memory
