-- Answers to a Read as JSON (RFC 8259), with values and times for people to read: each line is one
-- object.
use Rattle.std.specs.Prelude.{◌≡◌, ℕ, Bool, true, false, List, [], ◌∷◌, ◌++◌, Option, Some, None, Result, OnOk, codes, from_bits}
use Rattle.std.specs.Float.{Float, Format, binary32, binary64, float_is_finite}
use Rattle.std.specs.List.{flat_map}
use Rattle.fast_float.specs.Parse.{parse_float}
use Rattle.json.specs.Json as json
use Rattle.json.specs.Json.{Json}
use Rattle.json.specs.Tree.{json_tokens}
use Rattle.json.specs.Written.{Written}
use Rattle.ryu.specs.Plain.{IsPlainNumber}
use Rattle.ua_builtin.specs.declared.date_time.DateTime.{DateTime}
use Rattle.ua_builtin.specs.declared.node_id.NodeId.{NodeId}
use Rattle.ua_variant.specs.Data.{DataFields, LeafData, boolean, sbyte, byte, int16, uint16, int32, uint32, int64, uint64, float, double, string}
use Rattle.ua_variant.specs.Data.{byte_string, node_id, expanded_node_id, status_code, qualified_name, localized_text, VariantData, null, one, absent, many}
use Rattle.ua_variant.specs.Data.{ScalarData, leaf, data_value, variant, diagnostic, ScalarsData, no_scalars, scalar, DataValueData, bare, valued}
use Rattle.ua_variant.specs.Encodable.{kind_of_scalar, variant_encodable}
use Rattle.ua_variant.specs.declared.values.DataValue.{DataValue}
use Rattle.ua_answers.specs.Json.{Field, json_array, dimension_fields, json_line, leaf_json, object, status_fields, unwritable_fields, variant_fields}
use Rattle.ua_texts.specs.Names.{number_of}
use Rattle.ua_answers.specs.ObjectParts.{code_member, code_object, count_member, diagnostic_object, expanded_object, localized_object, name_object, node_object}
use Rattle.ua_texts.specs.Plain.{IsPlainLeaf, IsPlainScalar}
use Rattle.ua_texts.specs.PlainLeaf.{Either, IsPlainDouble, IsPlainFloat, IsPlainMoment}
use Rattle.ua_answers.specs.Tokens.{fields_tokens}
use Rattle.ua_texts.specs.Values.{type_name}
use Rattle.ua_answers.specs.declared.style.LineStyle.{LineStyle}

-- ---- scalars

-- a string of a text with this property
abbrev pub IsTextJson : (List ℕ → Type 0) → Json → Type 0
IsTextJson Holds j = (text : List ℕ) × (j ≡ json.string text) × Holds text

-- a floating-point number: a number that is parsed back as it; an infinity and a NaN are strings of
-- their text
abbrev pub IsFloatJson : Format → Float → (List ℕ → Type 0) → Json → Type 0
IsFloatJson f x Holds j = Either (float_is_finite x) ((text : List ℕ) × (j ≡ json.number text) × IsPlainNumber text × (parse_float f text ≡ Some x))
    (IsTextJson Holds j)

-- a scalar that contains no other value: Boolean, whole numbers, String and ByteString as in exact
-- JSON; a Float and a Double as numbers; ids, names, LocalizedText and StatusCode as objects; all
-- others as strings of the texts that they have in lines that are not JSON
abbrev pub IsLeafJson : Bool → LeafData → Json → Type 0
IsLeafJson names (boolean b) j = j ≡ leaf_json (boolean b)
IsLeafJson names (sbyte n) j = j ≡ leaf_json (sbyte n)
IsLeafJson names (byte n) j = j ≡ leaf_json (byte n)
IsLeafJson names (int16 n) j = j ≡ leaf_json (int16 n)
IsLeafJson names (uint16 n) j = j ≡ leaf_json (uint16 n)
IsLeafJson names (int32 n) j = j ≡ leaf_json (int32 n)
IsLeafJson names (uint32 n) j = j ≡ leaf_json (uint32 n)
IsLeafJson names (int64 n) j = j ≡ leaf_json (int64 n)
IsLeafJson names (uint64 n) j = j ≡ leaf_json (uint64 n)
IsLeafJson names (string s) j = j ≡ leaf_json (string s)
IsLeafJson names (byte_string b) j = j ≡ leaf_json (byte_string b)
IsLeafJson names (float p) j = IsFloatJson binary32 (from_bits binary32 p.bits) (IsPlainFloat p.bits) j
IsLeafJson names (double p) j = IsFloatJson binary64 (from_bits binary64 p.bits) (IsPlainDouble p.bits) j
IsLeafJson names (node_id x) j = j ≡ node_object x
IsLeafJson names (expanded_node_id x) j = j ≡ expanded_object x
IsLeafJson names (status_code c) j = j ≡ code_object names c.code
IsLeafJson names (qualified_name x) j = j ≡ name_object x
IsLeafJson names (localized_text x) j = j ≡ localized_object x
IsLeafJson names l j = IsTextJson (IsPlainLeaf names false l) j

-- such a scalar, or one that contains other values as a string of its text
abbrev pub IsLeafOrText : Bool → ScalarData → Json → Type 0
IsLeafOrText names (leaf l) j = IsLeafJson names l j
IsLeafOrText names s j = IsTextJson (IsPlainScalar names false s) j

-- ---- the fields of a DataValue

-- a timestamp by its name, if there is one
abbrev pub IsMomentMember : List ℕ → Option DateTime → List Field → Type 0
IsMomentMember name None fields = fields ≡ []
IsMomentMember name (Some t) fields = (j : Json) × (fields ≡ (name, j) ∷ []) × IsTextJson (IsPlainMoment t) j

-- a timestamp by its name, and its picoseconds, in units of 10, by theirs, each if it is there
-- (OPC 10000-6, 5.2.2.17)
abbrev pub AreTimeMembers : List ℕ → List ℕ → Option DateTime → Option ℕ → List Field → Type 0
AreTimeMembers name more t n fields = (moment : List Field) × (fields ≡ moment ++ count_member more n) × IsMomentMember name t moment

-- the fields of a DataValue that are there, each by its name, except its value
abbrev pub AreDataMembers : Bool → DataFields → List Field → Type 0
AreDataMembers names f fields =
    (source : List Field) × (server : List Field) × (fields ≡ code_member names (codes "status") f.status ++ (source ++ server))
    × AreTimeMembers (codes "source") (codes "source_picoseconds") f.source_timestamp f.source_picoseconds source
    × AreTimeMembers (codes "server") (codes "server_picoseconds") f.server_timestamp f.server_picoseconds server

-- ---- values

-- an object of members of which this holds
abbrev pub IsObject : (List Field → Type 0) → Json → Type 0
IsObject Are j = (fields : List Field) × (j ≡ object fields) × Are fields

-- members of which this holds, and others behind them
abbrev pub AreJoined : (List Field → Type 0) → (List Field → Type 0) → List Field → Type 0
AreJoined First Second fields = (first : List Field) × (second : List Field) × (fields ≡ first ++ second) × First first × Second second

abbrev mutual
  -- a scalar; one that contains other values is an object
  pub IsScalarJson : Bool → ScalarData → Json → Type 0
  IsScalarJson names (leaf l) j = IsLeafJson names l j
  IsScalarJson names (data_value d) j = IsDataValueJson names d j
  IsScalarJson names (variant v) j = IsObject (AreVariantFields names v) j
  IsScalarJson names (diagnostic d) j = j ≡ diagnostic_object names d

  -- the elements of an array, each in this form
  pub AreJson : Bool → ScalarsData → List Json → Type 0
  AreJson names no_scalars [] = Unit {0}
  AreJson names no_scalars (j ∷ js) = ⊥
  AreJson names (scalar s ss) [] = ⊥
  AreJson names (scalar s ss) (j ∷ js) = IsScalarJson names s j × AreJson names ss js

  -- the type and the value of a Variant, its elements in this form; an absent value and a null
  -- array are as in exact JSON
  pub AreVariantFields : Bool → VariantData → List Field → Type 0
  AreVariantFields names null fields = fields ≡ variant_fields null
  AreVariantFields names (one s) fields = (value : Json)
      × (fields ≡ (codes "type", json.string (type_name (kind_of_scalar s))) ∷ (codes "value", value) ∷ []) × IsScalarJson names s value
  AreVariantFields names (absent k ds) fields = fields ≡ variant_fields (absent k ds)
  AreVariantFields names (many k ss ds) fields =
      (value : Json) × (fields ≡ (codes "type", json.string (type_name k ++ codes "[]")) ∷ (codes "value", value) ∷ dimension_fields ds)
      × (items : List Json) × (value ≡ json_array items) × AreJson names ss items

  -- a DataValue: the type and the value of its Variant if there is one, and its other fields that
  -- are there
  pub IsDataValueJson : Bool → DataValueData → Json → Type 0
  IsDataValueJson names (bare f) j = IsObject (AreDataMembers names f) j
  IsDataValueJson names (valued v f) j = IsObject (AreJoined (AreVariantFields names v) (AreDataMembers names f)) j

-- a list of elements, each in this form
abbrev pub IsArrayJson : Bool → ScalarsData → Json → Type 0
IsArrayJson names ss j = (items : List Json) × (j ≡ json_array items) × AreJson names ss items

-- a value: one that cannot be encoded is `unwritable`, without its type
abbrev pub AreWrittenFields : Bool → VariantData → List Field → Type 0
AreWrittenFields names v fields = Either (variant_encodable v) (AreVariantFields names v fields) (fields ≡ unwritable_fields)

-- the value of an answer, if there is one
abbrev pub AreValueFields : Bool → Option VariantData → List Field → Type 0
AreValueFields names None fields = fields ≡ []
AreValueFields names (Some v) fields = AreWrittenFields names v fields

-- ---- lines

-- a timestamp: a string of its text, or null
abbrev pub IsTimeJson : Option DateTime → Json → Type 0
IsTimeJson None j = j ≡ json.null
IsTimeJson (Some moment) j = IsTextJson (IsPlainMoment moment) j

-- the timestamps of an answer, the source's and the server's
pub record AreBothFields (answer : DataValue) (fields : List Field) : Type 0 where
  pub source : Json
  pub server : Json
  pub are : fields ≡ (codes "source", source) ∷ (codes "server", server) ∷ []
  pub of_source : IsTimeJson answer.source_timestamp source
  pub of_server : IsTimeJson answer.server_timestamp server

-- the timestamps, if they are wanted
abbrev pub AreTimeFields : Bool → DataValue → List Field → Type 0
AreTimeFields true answer fields = AreBothFields answer fields
AreTimeFields false answer fields = fields ≡ []

-- the answer to an item of a Read
pub record IsPlainJson (style : LineStyle) (node : NodeId) (answer : DataValue) (text : List ℕ) : Type 0 where
  pub value : List Field
  pub times : List Field
  pub is : text ≡ json_line (object (status_fields style.names node (number_of answer.status) ++ (value ++ times)))
  pub of_value : AreValueFields style.names answer.value value
  pub of_times : AreTimeFields style.times answer times

-- ---- what is put into a writer

-- a value with this property was put
abbrev pub PutsJson : {E : Type 0} → Result (Unit {0}) E → Written → Written → (Json → Type 0) → Type 0
PutsJson r old new Is = OnOk r ((j : Json) × (new.before ≡ old.before) × (new.tokens ≡ old.tokens ++ json_tokens j) × Is j)

-- values with this property were put
abbrev pub PutsEach : {E : Type 0} → Result (Unit {0}) E → Written → Written → (List Json → Type 0) → Type 0
PutsEach r old new Are = OnOk r ((js : List Json) × (new.before ≡ old.before) × (new.tokens ≡ old.tokens ++ flat_map json_tokens js) × Are js)

-- members with this property were put
abbrev pub PutsFields : {E : Type 0} → Result (Unit {0}) E → Written → Written → (List Field → Type 0) → Type 0
PutsFields r old new Are = OnOk r ((fields : List Field) × (new.before ≡ old.before) × (new.tokens ≡ old.tokens ++ fields_tokens fields) × Are fields)
