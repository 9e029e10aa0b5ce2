-- The texts of values, as the program prints them.
use Rattle.std.specs.Prelude.{ℕ, zero, suc, Bool, true, false, cond, nat_eq, map, List, [], ◌∷◌, ◌++◌, Option, None, Some, codes}
use Rattle.std.specs.Fmt.{decimal, signed_decimal}
use Rattle.std.specs.List.{flat_map}
use Rattle.uuid.specs.Text.{hyphenated_text, lower}
use Rattle.ua_diagnostic.specs.Diagnostic.{diagnostic_canonical}
use Rattle.ua_variant.specs.Canonical.{variant_canonical, data_value_canonical}
use Rattle.ua_variant.specs.Data.{LeafData, boolean, sbyte, byte, int16, uint16, int32, uint32, int64, uint64, float, double, string, date_time, guid}
use Rattle.ua_variant.specs.Data.{byte_string, xml_element, node_id, expanded_node_id, status_code, qualified_name, localized_text, extension_object}
use Rattle.ua_variant.specs.Data.{reserved, VariantData, null, one, absent, many, ScalarData, leaf, data_value, variant, diagnostic}
use Rattle.ua_variant.specs.Encodable.{kind_of_scalar, variant_encodable, data_value_encodable, diagnostic_encodable}
use Rattle.ua_variant.specs.Leaf.{leaf_encodable, leaf_canonical}
use Rattle.ua_variant.specs.View.{row_list}
use Rattle.ua_texts.specs.Shown.{shown_string, pattern_text, base64_text, written_text, unwritable}

-- ---- types

-- the standard's name of the type of an id (OPC 10000-6, 5.1.2); the ids from 26 to 31 are reserved
abbrev pub type_name : ℕ → List ℕ
type_name k =
    cond (nat_eq k 1) (codes "Boolean") (
    cond (nat_eq k 2) (codes "SByte") (
    cond (nat_eq k 3) (codes "Byte") (
    cond (nat_eq k 4) (codes "Int16") (
    cond (nat_eq k 5) (codes "UInt16") (
    cond (nat_eq k 6) (codes "Int32") (
    cond (nat_eq k 7) (codes "UInt32") (
    cond (nat_eq k 8) (codes "Int64") (
    cond (nat_eq k 9) (codes "UInt64") (
    cond (nat_eq k 10) (codes "Float") (
    cond (nat_eq k 11) (codes "Double") (
    cond (nat_eq k 12) (codes "String") (
    cond (nat_eq k 13) (codes "DateTime") (
    cond (nat_eq k 14) (codes "Guid") (
    cond (nat_eq k 15) (codes "ByteString") (
    cond (nat_eq k 16) (codes "XmlElement") (
    cond (nat_eq k 17) (codes "NodeId") (
    cond (nat_eq k 18) (codes "ExpandedNodeId") (
    cond (nat_eq k 19) (codes "StatusCode") (
    cond (nat_eq k 20) (codes "QualifiedName") (
    cond (nat_eq k 21) (codes "LocalizedText") (
    cond (nat_eq k 22) (codes "ExtensionObject") (
    cond (nat_eq k 23) (codes "DataValue") (
    cond (nat_eq k 24) (codes "Variant") (
    cond (nat_eq k 25) (codes "DiagnosticInfo") (
    codes "Reserved")))))))))))))))))))))))))

-- ---- scalars

-- `true` or `false`
abbrev pub boolean_text : Bool → List ℕ
boolean_text true = codes "true"
boolean_text false = codes "false"

-- a scalar without a text form: the bytes of its canonical encoding
abbrev pub leaf_octets_text : LeafData → List ℕ
leaf_octets_text l = written_text (leaf_encodable l) (leaf_canonical l)

-- a scalar that contains no other value: numbers in decimal, Float, Double and StatusCode by their
-- bit patterns, a String as it is shown, a Guid with its hyphens, a ByteString in base64, others by
-- their bytes
abbrev pub leaf_text : LeafData → List ℕ
leaf_text (boolean b) = boolean_text b
leaf_text (sbyte n) = signed_decimal n
leaf_text (byte n) = decimal n
leaf_text (int16 n) = signed_decimal n
leaf_text (uint16 n) = decimal n
leaf_text (int32 n) = signed_decimal n
leaf_text (uint32 n) = decimal n
leaf_text (int64 n) = signed_decimal n
leaf_text (uint64 n) = decimal n
leaf_text (float p) = pattern_text 8 p.bits
leaf_text (double p) = pattern_text 16 p.bits
leaf_text (string s) = shown_string s
leaf_text (date_time t) = signed_decimal t.ticks
leaf_text (guid g) = hyphenated_text lower g.uuid
leaf_text (byte_string b) = base64_text b
leaf_text (xml_element x) = leaf_octets_text (xml_element x)
leaf_text (node_id x) = leaf_octets_text (node_id x)
leaf_text (expanded_node_id x) = leaf_octets_text (expanded_node_id x)
leaf_text (status_code c) = pattern_text 8 c.code
leaf_text (qualified_name x) = leaf_octets_text (qualified_name x)
leaf_text (localized_text x) = leaf_octets_text (localized_text x)
leaf_text (extension_object x) = leaf_octets_text (extension_object x)
leaf_text (reserved k x) = unwritable

-- a scalar: one that contains other values by the bytes of its canonical encoding
abbrev pub scalar_text : ScalarData → List ℕ
scalar_text (leaf l) = leaf_text l
scalar_text (data_value d) = written_text (data_value_encodable d) (data_value_canonical d)
scalar_text (variant v) = written_text (variant_encodable v) (variant_canonical v)
scalar_text (diagnostic d) = written_text (diagnostic_encodable d) (diagnostic_canonical d)

-- ---- arrays

-- texts separated by commas
abbrev pub parted : List (List ℕ) → List ℕ
parted [] = []
parted (text ∷ texts) = text ++ flat_map (λ t. 44 ∷ t) texts

-- the text of an element at an index: after a comma unless it is the first
abbrev pub item_text : ℕ → List ℕ → List ℕ
item_text zero text = text
item_text (suc n) text = 44 ∷ text

-- the text before the element at an index: a comma, unless it is the first
abbrev pub comma_at : ℕ → List ℕ
comma_at zero = []
comma_at (suc n) = 44 ∷ []

-- the elements of an array separated by commas; the empty text for an empty array
abbrev pub items_text : List ScalarData → List ℕ
items_text items = parted (map scalar_text items)

-- the type and the elements of an array, null as `null`
abbrev pub array_text : ℕ → Option (List ScalarData) → List ℕ
array_text k None = type_name k ++ codes "[] null"
array_text k (Some items) = type_name k ++ (codes "[] " ++ items_text items)

-- ---- values with their types

-- the type and the value: an array's type is followed by `[]`, a null array is `null`; dimensions
-- are not shown; the absent value is `Null`
abbrev pub typed_text : VariantData → List ℕ
typed_text null = codes "Null"
typed_text (one s) = type_name (kind_of_scalar s) ++ (codes " " ++ scalar_text s)
typed_text (absent k ds) = array_text k None
typed_text (many k ss ds) = array_text k (Some (row_list ss))

-- a value that cannot be encoded is `unwritable`, without its type
abbrev pub variant_text : VariantData → List ℕ
variant_text v = cond (variant_encodable v) (typed_text v) unwritable
