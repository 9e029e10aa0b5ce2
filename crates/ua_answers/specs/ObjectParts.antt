-- Parts of values as objects of JSON, for programs to take apart.
use Rattle.std.specs.Prelude.{ℕ, ℤ, Bool, option_map, List, [], ◌∷◌, ◌++◌, Option, Some, None, codes}
use Rattle.std.specs.Fmt.{decimal}
use Rattle.base64.specs.Engines.{standard}
use Rattle.base64.specs.GeneralPurpose.{encode_of}
use Rattle.json.specs.Json as json
use Rattle.json.specs.Json.{Json}
use Rattle.uuid.specs.Text.{hyphenated_text, lower}
use Rattle.ua_builtin.specs.declared.expanded_node_id.ExpandedNodeId.{ExpandedNodeId}
use Rattle.ua_builtin.specs.declared.localized_text.LocalizedText.{LocalizedText}
use Rattle.ua_builtin.specs.declared.node_id.Identifier.{Identifier}
use Rattle.ua_builtin.specs.declared.node_id.Identifier.TheVariants.{Numeric, Text, Guid, Opaque}
use Rattle.ua_builtin.specs.declared.node_id.NodeId.{NodeId}
use Rattle.ua_builtin.specs.declared.qualified_name.QualifiedName.{QualifiedName}
use Rattle.ua_builtin.specs.declared.status_code.StatusCode.{StatusCode}
use Rattle.ua_diagnostic.specs.Diagnostic.{DiagnosticFields, DiagnosticData, innermost, around}
use Rattle.ua_answers.specs.Json.{Field, name_fields, object, signed_json, text_or_null}
use Rattle.ua_texts.specs.Names.{name_of_code}
use Rattle.ua_texts.specs.Shown.{code_text}

-- ---- ids and names

-- an unsigned number
abbrev pub count_json : ℕ → Json
count_json n = json.number (decimal n)

-- the letter that texts of NodeIds have for the type of an identifier (OPC 10000-6, 5.3.1.10)
abbrev pub identifier_letter : Identifier → List ℕ
identifier_letter (Numeric n) = codes "i"
identifier_letter (Text t) = codes "s"
identifier_letter (Guid g) = codes "g"
identifier_letter (Opaque b) = codes "b"

-- an identifier: a number; a text; a Guid hyphenated in lower case; bytes in base64; null for a
-- null text and for null bytes
abbrev pub identifier_json : Identifier → Json
identifier_json (Numeric n) = count_json n
identifier_json (Text t) = text_or_null t
identifier_json (Guid g) = json.string (hyphenated_text lower g.uuid)
identifier_json (Opaque b) = text_or_null (option_map (encode_of standard) b)

-- the members of a NodeId: the index of its namespace, the letter and the identifier
abbrev pub node_members : NodeId → List Field
node_members x =
    (codes "ns", count_json x.namespace) ∷ (codes "id_type", json.string (identifier_letter x.identifier)) ∷ (codes "id", identifier_json x.identifier) ∷ []

-- a NodeId
abbrev pub node_object : NodeId → Json
node_object x = object (node_members x)

-- an ExpandedNodeId: the index of its server, the URI of its namespace or null, and the members of
-- its NodeId
abbrev pub expanded_object : ExpandedNodeId → Json
expanded_object x = object ((codes "server", count_json x.server_index) ∷ (codes "uri", text_or_null x.namespace_uri) ∷ node_members x.node_id)

-- a QualifiedName: the index of its namespace, and its name or null
abbrev pub name_object : QualifiedName → Json
name_object q = object ((codes "ns", count_json q.namespace) ∷ (codes "name", text_or_null q.name) ∷ [])

-- a LocalizedText: its locale and its text, each of which may be null
abbrev pub localized_object : LocalizedText → Json
localized_object t = object ((codes "locale", text_or_null t.locale) ∷ (codes "text", text_or_null t.text) ∷ [])

-- a StatusCode: its eight digits, and its name if names are wanted and it has one
abbrev pub code_object : Bool → ℕ → Json
code_object names code = object ((codes "code", json.string (code_text code)) ∷ name_fields names (name_of_code code))

-- ---- members that may be absent

-- a signed number, if there is one
abbrev pub number_member : List ℕ → Option ℤ → List Field
number_member name None = []
number_member name (Some n) = (name, signed_json n) ∷ []

-- an unsigned number, if there is one
abbrev pub count_member : List ℕ → Option ℕ → List Field
count_member name None = []
count_member name (Some n) = (name, count_json n) ∷ []

-- a text, if there is one
abbrev pub text_member : List ℕ → Option (List ℕ) → List Field
text_member name None = []
text_member name (Some text) = (name, json.string text) ∷ []

-- a StatusCode, if there is one
abbrev pub code_member : Bool → List ℕ → Option StatusCode → List Field
code_member names name None = []
code_member names name (Some status) = (name, code_object names status.code) ∷ []

-- ---- DiagnosticInfos

-- the ids of a DiagnosticInfo that are present (OPC 10000-6, 5.2.2.12)
abbrev pub id_members : DiagnosticFields → List Field
id_members f =
    number_member (codes "symbolic_id") f.symbolic_id ++ (number_member (codes "namespace_uri") f.namespace_uri
    ++ (number_member (codes "locale") f.locale ++ number_member (codes "localized_text") f.localized_text))

-- its further fields that are present, except its inner DiagnosticInfo
abbrev pub detail_members : Bool → DiagnosticFields → List Field
detail_members names f = text_member (codes "additional_info") f.additional_info ++ code_member names (codes "inner_status_code") f.inner_status_code

-- its fields that are present, except its inner DiagnosticInfo
unfoldable pub diagnostic_members : Bool → DiagnosticFields → List Field
diagnostic_members names f = id_members f ++ detail_members names f

-- a DiagnosticInfo: its fields that are present, with its inner DiagnosticInfo in the same form at
-- the end, if there is one
abbrev pub diagnostic_object : Bool → DiagnosticData → Json
diagnostic_object names (innermost f) = object (diagnostic_members names f)
diagnostic_object names (around f d) = object (diagnostic_members names f ++ (codes "inner", diagnostic_object names d) ∷ [])
