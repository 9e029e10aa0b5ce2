-- The texts of values that contain no other value, for people to read. A number's decimal is not
-- determined by the value alone: it is any that is parsed back as the value, in its layout. So the
-- text is given by a relation.
use Rattle.std.specs.Prelude.{◌≡◌, ◌⊎◌, ℕ, Bool, true, false, cond, nat_eq, List, [], ◌++◌, Option, Some, None, Result, OnOk, codes}
use Rattle.std.specs.Fmt.{decimal, signed_decimal}
use Rattle.ua_plain.specs.Decimal.{IsDoubleText, IsFloatText, has_double_text, has_float_text}
use Rattle.ua_plain.specs.Moment.{IsInCalendar, IsMomentText}
use Rattle.ua_builtin.specs.NodeText.{node_text}
use Rattle.ua_builtin.specs.declared.date_time.DateTime.{DateTime}
use Rattle.ua_builtin.specs.declared.expanded_node_id.ExpandedNodeId.{ExpandedNodeId}
use Rattle.ua_builtin.specs.declared.localized_text.LocalizedText.{LocalizedText}
use Rattle.ua_builtin.specs.declared.node_id.NodeId.{NodeId}
use Rattle.ua_builtin.specs.declared.qualified_name.QualifiedName.{QualifiedName}
use Rattle.ua_texts.specs.Marks.{before_bar, before_semicolon, marked, marked_string, of}
use Rattle.ua_texts.specs.Names.{name_of_code, name_part}
use Rattle.ua_texts.specs.Shown.{pattern_text, shown_string}
use Rattle.ua_texts.specs.declared.marks.Marks.{Marks}

-- ---- what was added

-- a text with this property was appended
abbrev pub Adds : {E : Type 0} → Result (Unit {0}) E → List ℕ → List ℕ → (List ℕ → Type 0) → Type 0
Adds r old new Holds = OnOk r ((text : List ℕ) × (new ≡ old ++ text) × Holds text)

-- ---- numbers and times

-- if a value has a form of its own, it has that; otherwise it has this one
abbrev pub Either : Bool → Type 0 → Type 0 → Type 0
Either true Own Other = Own
Either false Own Other = Other

-- a Float: its decimal, `Infinity`, `NaN`, or its bit pattern
abbrev pub IsPlainFloat : ℕ → List ℕ → Type 0
IsPlainFloat bits text = Either (has_float_text bits) (IsFloatText bits text) (text ≡ pattern_text 8 bits)

-- a Double
abbrev pub IsPlainDouble : ℕ → List ℕ → Type 0
IsPlainDouble bits text = Either (has_double_text bits) (IsDoubleText bits text) (text ≡ pattern_text 16 bits)

-- a DateTime: its time, or its ticks
abbrev pub IsPlainMoment : DateTime → List ℕ → Type 0
IsPlainMoment t text = (IsInCalendar t.ticks × IsMomentText t.ticks text) ⊎ ((IsInCalendar t.ticks → ⊥) × (text ≡ signed_decimal t.ticks))

-- ---- texts and names

-- a String: alone as it is shown, within an array or brackets with the marks of these escaped
abbrev pub plain_string : Bool → Option (List ℕ) → List ℕ
plain_string within text = cond within (marked_string (of true) text) (shown_string text)

-- a NodeId: its text (OPC 10000-6, 5.3.1.10)
abbrev pub plain_node : Bool → NodeId → List ℕ
plain_node within node = marked (of within) (node_text node)

-- `svr=`, the index of a server and `;`, unless it is 0 (OPC 10000-6, 5.3.1.11)
abbrev pub server_text : ℕ → List ℕ
server_text server = cond (nat_eq server 0) [] (codes "svr=" ++ (decimal server ++ codes ";"))

-- `nsu=`, the URI of a namespace and `;`, if there is one
abbrev pub uri_text : Bool → Option (List ℕ) → List ℕ
uri_text within None = []
uri_text within (Some uri) = codes "nsu=" ++ (marked (before_semicolon within) uri ++ codes ";")

-- an ExpandedNodeId: its server, the URI of its namespace, and the NodeId
abbrev pub plain_expanded : Bool → ExpandedNodeId → List ℕ
plain_expanded within e = server_text e.server_index ++ (uri_text within e.namespace_uri ++ plain_node within e.node_id)

-- a QualifiedName: the namespace, `:` and the name, as `1:Pump`
abbrev pub plain_name : Bool → QualifiedName → List ℕ
plain_name within q = decimal q.namespace ++ (codes ":" ++ marked_string (of within) q.name)

-- a locale and a bar, if there is one
abbrev pub locale_text : Marks → Option (List ℕ) → List ℕ
locale_text marks None = []
locale_text marks (Some locale) = marked marks locale ++ codes "|"

-- a LocalizedText: the locale followed by a bar, and the text, as `en|Pump`; the text alone if it
-- has no locale
abbrev pub plain_localized : Bool → LocalizedText → List ℕ
plain_localized within l = locale_text (before_bar within) l.locale ++ marked_string (before_bar within) l.text

-- a StatusCode: its digits, and if names are wanted its name after them, if it has one
abbrev pub plain_code : Bool → ℕ → List ℕ
plain_code names code = pattern_text 8 code ++ cond names (name_part (name_of_code code)) []
