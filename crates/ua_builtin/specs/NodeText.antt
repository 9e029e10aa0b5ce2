-- The text of a NodeId, and which texts name which NodeId.
use Rattle.std.specs.Prelude.{◌≡◌, ◌<◌, ◌^◌, ◌⊎◌, ℕ, List, [], ◌∷◌, ◌++◌, Option, Some, None, cond, nat_eq, length, get_or, codes}
use Rattle.std.specs.Fmt.{decimal}
use Rattle.std.specs.Str.Parse.{IsNumeral, digits_value}
use Rattle.uuid.specs.Text.{hyphenated_text, lower, parsed}
use Rattle.base64.specs.Engines.{standard}
use Rattle.base64.specs.GeneralPurpose.{encode_of, IsBytes}
use Rattle.ua_builtin.specs.NodeId.{node}
use Rattle.ua_builtin.specs.declared.guid.Guid.{Guid}
use Rattle.ua_builtin.specs.declared.node_id.NodeId.{NodeId}
use Rattle.ua_builtin.specs.declared.node_id.Identifier.{Identifier}
use Rattle.ua_builtin.specs.declared.node_id.Identifier.TheVariants.{Numeric, Text, Guid as Global, Opaque}

-- ---- the text of a NodeId (OPC 10000-6, 5.3.1.10)

-- the bytes, and none for null
abbrev pub list_of : Option (List ℕ) → List ℕ
list_of None = []
list_of (Some v) = v

-- the byte of `;`
abbrev pub semicolon : ℕ
semicolon = 59

-- `ns=` and the namespace, unless that is 0
abbrev pub namespace_text : ℕ → List ℕ
namespace_text n = cond (nat_eq n 0) [] (codes "ns=" ++ (decimal n ++ semicolon ∷ []))

-- a number in decimal, a text unchanged, a Guid hyphenated in lower case, bytes in base64; null as
-- if it were empty
abbrev pub identifier_text : Identifier → List ℕ
identifier_text (Numeric n) = codes "i=" ++ decimal n
identifier_text (Text t) = codes "s=" ++ list_of t
identifier_text (Global g) = codes "g=" ++ hyphenated_text lower g.uuid
identifier_text (Opaque b) = codes "b=" ++ encode_of standard (list_of b)

-- the text of a NodeId: that of its namespace, and after it that of its identifier (OPC 10000-6,
-- 5.3.1.10)
abbrev pub node_text : NodeId → List ℕ
node_text v = namespace_text v.namespace ++ identifier_text v.identifier

-- ---- the texts that name a NodeId

-- one or more decimal digits write the number, which is below the bound
pub record IsDecimal (bound n : ℕ) (digits : List ℕ) : Type 0 where
  pub numeral : IsNumeral 10 digits
  pub value : digits_value 10 digits ≡ n
  pub fits : n < bound

-- the text is a hyphenated Guid
abbrev pub IsGuidText : List ℕ → Guid → Type 0
IsGuidText text g = (length text ≡ 36) × (parsed text ≡ Some g.uuid)

-- the text is the base64 of bytes
abbrev pub IsBase64 : List ℕ → List ℕ → Type 0
IsBase64 text octets = (text ≡ encode_of standard octets) × IsBytes octets

-- the text names the identifier: `i=` and a number, `s=` and any text, `g=` and a hyphenated Guid
-- in either case, or `b=` and bytes in base64
abbrev pub NamesIdentifier : Identifier → List ℕ → Type 0
NamesIdentifier (Numeric n) text = (digits : List ℕ) × (text ≡ codes "i=" ++ digits) × IsDecimal (2 ^ 32) n digits
NamesIdentifier (Text t) text = (rest : List ℕ) × (text ≡ codes "s=" ++ rest) × (t ≡ Some rest)
NamesIdentifier (Global g) text = (rest : List ℕ) × (text ≡ codes "g=" ++ rest) × IsGuidText rest g
NamesIdentifier (Opaque b) text = (rest : List ℕ) × (octets : List ℕ) × (text ≡ codes "b=" ++ rest) × IsBase64 rest octets × (b ≡ Some octets)

-- `ns=`, the namespace in decimal and `;`
pub record NamesNamespace (n : ℕ) (text : List ℕ) : Type 0 where
  pub digits : List ℕ
  pub is : text ≡ codes "ns=" ++ (digits ++ semicolon ∷ [])
  pub decimal : IsDecimal (2 ^ 16) n digits

-- the text names the NodeId: its namespace, which may be left out where it is 0, and its identifier
pub record NamesNode (v : NodeId) (text : List ℕ) : Type 0 where
  pub front : List ℕ
  pub back : List ℕ
  pub parts : text ≡ front ++ back
  pub namespace : ((v.namespace ≡ 0) × (front ≡ [])) ⊎ NamesNamespace v.namespace front
  pub identifier : NamesIdentifier v.identifier back

-- the same NodeId, with an empty identifier in place of a null one
abbrev pub filled_identifier : Identifier → Identifier
filled_identifier (Numeric n) = Numeric n
filled_identifier (Text t) = Text (Some (list_of t))
filled_identifier (Global g) = Global g
filled_identifier (Opaque b) = Opaque (Some (list_of b))

-- the same NodeId, with an empty identifier in place of a null one
abbrev pub with_empty_identifier : NodeId → NodeId
with_empty_identifier v = record { namespace = v.namespace; identifier = filled_identifier v.identifier }

-- ---- the parts of a text

-- what follows a prefix, or that the text does not begin with it
abbrev pub IsBehind : List ℕ → List ℕ → Option (List ℕ) → Type 0
IsBehind prefix text None = (rest : List ℕ) → text ≡ prefix ++ rest → ⊥
IsBehind prefix text (Some rest) = text ≡ prefix ++ rest

-- no byte is a semicolon
abbrev pub HasNoSemicolon : List ℕ → Type 0
HasNoSemicolon text = (i : ℕ) → i < length text → get_or text i 0 ≡ semicolon → ⊥

-- the parts at the first semicolon, or that there is none
abbrev pub IsCutAtSemicolon : List ℕ → Option (List ℕ × List ℕ) → Type 0
IsCutAtSemicolon text None = (front back : List ℕ) → HasNoSemicolon front → text ≡ front ++ semicolon ∷ back → ⊥
IsCutAtSemicolon text (Some p) = (text ≡ p.0 ++ semicolon ∷ p.1) × ((front back : List ℕ) → HasNoSemicolon front → text ≡ front ++ semicolon ∷ back
    → (p.0 ≡ front) × (p.1 ≡ back))

-- a text names a NodeId of this namespace if the rest names its identifier, and no other NodeId
pub record IsNodeTextRest (namespace : ℕ) (rest text : List ℕ) : Type 0 where
  pub names : (i : Identifier) → NamesIdentifier i rest → NamesNode (node namespace i) text
  pub alone : (v : NodeId) → NamesNode v text → (v.namespace ≡ namespace) × NamesIdentifier v.identifier rest
