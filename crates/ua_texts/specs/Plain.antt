-- The texts of values with all that they contain, for people to read.
use Rattle.std.specs.Prelude.{◌≡◌, ℕ, ℤ, Bool, true, false, List, [], ◌∷◌, ◌++◌, codes}
use Rattle.std.specs.Fmt.{signed_decimal}
use Rattle.std.specs.List.{flat_map}
use Rattle.ua_variant.specs.Data.{DataFields, LeafData, float, double, string, date_time, node_id, expanded_node_id, status_code}
use Rattle.ua_variant.specs.Data.{qualified_name, localized_text, ScalarData, leaf, data_value, variant, diagnostic, ScalarsData}
use Rattle.ua_variant.specs.Data.{no_scalars, scalar, VariantData, null, one, absent, many, DataValueData, bare, valued}
use Rattle.ua_variant.specs.Encodable.{kind_of_scalar, variant_encodable}
use Rattle.ua_variant.specs.View.{row}
use Rattle.ua_texts.specs.PlainDiagnostic.{plain_diagnostic}
use Rattle.ua_texts.specs.PlainLeaf.{Either, IsPlainDouble, IsPlainFloat, IsPlainMoment, plain_code}
use Rattle.ua_texts.specs.PlainLeaf.{plain_expanded, plain_localized, plain_name, plain_node, plain_string}
use Rattle.ua_texts.specs.PlainParts.{IsTimePart, status_part}
use Rattle.ua_texts.specs.Shown.{unwritable}
use Rattle.ua_texts.specs.Values.{leaf_text, parted, scalar_text, type_name}

-- ---- scalars that hold no further value

-- the text of such a scalar, alone or within an array or brackets, with or without the names of
-- StatusCodes; a type that is not listed has its `leaf_text`, which shows an XmlElement and an
-- ExtensionObject by their bytes
abbrev pub IsPlainLeaf : Bool → Bool → LeafData → List ℕ → Type 0
IsPlainLeaf names within (float p) text = IsPlainFloat p.bits text
IsPlainLeaf names within (double p) text = IsPlainDouble p.bits text
IsPlainLeaf names within (date_time t) text = IsPlainMoment t text
IsPlainLeaf names within (string s) text = text ≡ plain_string within s
IsPlainLeaf names within (node_id x) text = text ≡ plain_node within x
IsPlainLeaf names within (expanded_node_id x) text = text ≡ plain_expanded within x
IsPlainLeaf names within (status_code c) text = text ≡ plain_code names c.code
IsPlainLeaf names within (qualified_name x) text = text ≡ plain_name within x
IsPlainLeaf names within (localized_text x) text = text ≡ plain_localized within x
IsPlainLeaf names within l text = text ≡ leaf_text l

-- a scalar that contains other values is shown by its bytes, any other as above
abbrev pub IsLeafOrOctets : Bool → Bool → ScalarData → List ℕ → Type 0
IsLeafOrOctets names within (leaf l) text = IsPlainLeaf names within l text
IsLeafOrOctets names within s text = text ≡ scalar_text s

-- ---- the fields of a DataValue

-- the fields of a DataValue that are present, each by its name, except its value
abbrev pub IsPlainFields : Bool → DataFields → List ℕ → Type 0
IsPlainFields names f text =
    (source : List ℕ) × (server : List ℕ) × (text ≡ status_part names (codes "status") f.status ++ (source ++ server))
    × IsTimePart (codes "source") f.source_timestamp f.source_picoseconds source × IsTimePart (codes "server") f.server_timestamp f.server_picoseconds server

-- ---- values with all that they hold

-- the length of a dimension in square brackets
abbrev pub length_text : ℤ → List ℕ
length_text n = codes "[" ++ (signed_decimal n ++ codes "]")

-- the lengths of an array's dimensions, each in square brackets; `[]` if it has only one dimension
abbrev pub dimensions_text : List ℤ → List ℕ
dimensions_text [] = codes "[]"
dimensions_text (d ∷ ds) = flat_map length_text (d ∷ ds)

-- the type of an array and its dimensions
abbrev pub array_type_text : ℕ → List ℤ → List ℕ
array_type_text k ds = type_name k ++ dimensions_text ds

abbrev mutual
  -- the type and the value: `Int32 7`, `Int32[2][3] 1,2,3,4,5,6`, `Int32[] null`; the absent value
  -- is `Null`
  pub IsPlainTyped : Bool → Bool → VariantData → List ℕ → Type 0
  IsPlainTyped names within null text = text ≡ codes "Null"
  IsPlainTyped names within (one s) text = (value : List ℕ) × (text ≡ type_name (kind_of_scalar s) ++ (codes " " ++ value)) × IsPlainScalar names within s value
  IsPlainTyped names within (absent k ds) text = text ≡ array_type_text k ds ++ codes " null"
  IsPlainTyped names within (many k ss ds) text = (texts : List (List ℕ)) × (text ≡ array_type_text k ds ++ (codes " " ++ parted texts))
      × ArePlain names ss texts

  -- a scalar: a Variant with its type in round brackets, a DataValue and a DiagnosticInfo by their
  -- fields in curly ones
  pub IsPlainScalar : Bool → Bool → ScalarData → List ℕ → Type 0
  IsPlainScalar names within (leaf l) text = IsPlainLeaf names within l text
  IsPlainScalar names within (data_value d) text = IsPlainDataValue names d text
  IsPlainScalar names within (variant v) text = (value : List ℕ) × (text ≡ codes "(" ++ (value ++ codes ")")) × IsPlainTyped names true v value
  IsPlainScalar names within (diagnostic d) text = text ≡ plain_diagnostic names d

  -- the elements of an array, each its text
  pub ArePlain : Bool → ScalarsData → List (List ℕ) → Type 0
  ArePlain names no_scalars [] = Unit {0}
  ArePlain names no_scalars (text ∷ texts) = ⊥
  ArePlain names (scalar s ss) [] = ⊥
  ArePlain names (scalar s ss) (text ∷ texts) = IsPlainScalar names true s text × ArePlain names ss texts

  -- a DataValue: `{`, its value with its type if there is one, the fields that are present, and
  -- ` }`
  pub IsPlainDataValue : Bool → DataValueData → List ℕ → Type 0
  IsPlainDataValue names (bare f) text = (fields : List ℕ) × (text ≡ codes "{" ++ (fields ++ codes " }")) × IsPlainFields names f fields
  IsPlainDataValue names (valued v f) text = (value : List ℕ) × (fields : List ℕ)
      × (text ≡ codes "{ value (" ++ (value ++ (codes ")" ++ (fields ++ codes " }"))))
      × IsPlainTyped names true v value × IsPlainFields names f fields

-- elements separated by commas
abbrev pub IsPlainItems : Bool → List ScalarData → List ℕ → Type 0
IsPlainItems names items text = (texts : List (List ℕ)) × (text ≡ parted texts) × ArePlain names (row items) texts

-- a value that cannot be encoded is `unwritable`, without its type
abbrev pub IsPlainVariant : Bool → VariantData → List ℕ → Type 0
IsPlainVariant names v text = Either (variant_encodable v) (IsPlainTyped names false v text) (text ≡ unwritable)
