-- Values without fields of their own, as trees of one line.
use Rattle.std.specs.Prelude.{ℕ, Bool, true, false, ◌&&◌, cond, nat_eq, List, [], ◌∷◌, Option, Some, None, is_none, option_map, codes}
use Rattle.std.specs.Fmt.{decimal, signed_decimal}
use lib.IntN.{ℤ}
use Rattle.ua_wire.specs.Counted.{counted, text as string_format}
use Rattle.ua_wire.specs.Exact.{◌>>=◌}
use Rattle.ua_wire.specs.Format.{flat}
use Rattle.ua_wire.specs.Join.{pair}
use Rattle.ua_wire.specs.declared.double_bits.DoubleBits.{DoubleBits}
use Rattle.ua_builtin.specs.ExtensionObject.{extension_object as object_format}
use Rattle.ua_builtin.specs.Format.{Format}
use Rattle.ua_builtin.specs.LocalizedText.{localized_text as localized_format}
use Rattle.ua_builtin.specs.NodeText.{node_text}
use Rattle.ua_builtin.specs.QualifiedName.{qualified_name as name_format}
use Rattle.ua_builtin.specs.declared.date_time.DateTime.{DateTime}
use Rattle.ua_builtin.specs.declared.extension_object.ExtensionBody.{ExtensionBody}
use Rattle.ua_builtin.specs.declared.extension_object.ExtensionBody.TheVariants.{Absent, ByteString, Xml}
use Rattle.ua_builtin.specs.declared.extension_object.ExtensionObject.{ExtensionObject}
use Rattle.ua_builtin.specs.declared.localized_text.LocalizedText.{LocalizedText}
use Rattle.ua_builtin.specs.declared.node_id.Identifier.{Identifier}
use Rattle.ua_builtin.specs.declared.node_id.Identifier.TheVariants.{Numeric, Text, Guid, Opaque}
use Rattle.ua_builtin.specs.declared.node_id.NodeId.{NodeId}
use Rattle.ua_builtin.specs.declared.qualified_name.QualifiedName.{QualifiedName}
use Rattle.ua_builtin.specs.declared.status_code.StatusCode.{StatusCode}
use Rattle.ua_diagnostic.specs.Diagnostic.{DiagnosticFields, DiagnosticData, innermost, around}
use Rattle.ua_diagnostic.specs.Formats.{diagnostic_format}
use Rattle.ua_diagnostic.specs.View.{diagnostic_of}
use Rattle.ua_diagnostic.specs.declared.diagnostic_info.DiagnosticInfo.{DiagnosticInfo}
use Rattle.ua_opening.specs.Message.{body_of, standard_number}
use Rattle.ua_structures.specs.Session.{anonymous_identity_token}
use Rattle.ua_structures.specs.declared.session.AnonymousIdentityToken.{AnonymousIdentityToken}
use Rattle.ua_texts.specs.Names.{named_code}
use Rattle.ua_texts.specs.Shown.{escaped, escaped_string, base64_text, written_text}
use Rattle.ua_texts.specs.Values.{boolean_text}
use Rattle.ua_texts.specs.PlainDiagnostic.{plain_diagnostic}
use Rattle.ua_texts.specs.PlainLeaf.{plain_localized, plain_name}
use Rattle.ua_fields.specs.Tree.{Fields, Leaf, Tree, double_of, fixed, moment_of, named, no_fields, opened, same_leaf, structure, text}

-- what the line of a value says, or `null` if there is none
abbrev pub leaf_or_null : {A : Type 0} → (A → Leaf) → Option A → Leaf
leaf_or_null leaf None = same_leaf (codes "null")
leaf_or_null leaf (Some value) = leaf value

-- an optional value
abbrev pub optional_tree : {A : Type 0} → (A → Leaf) → Option A → Tree
optional_tree leaf value = text (leaf_or_null leaf value)

-- ---- plain values

-- an unsigned number, in decimal
abbrev pub number_leaf : ℕ → Leaf
number_leaf n = same_leaf (decimal n)

-- the same as a tree; so are those below
abbrev pub number_tree : ℕ → Tree
number_tree n = text (number_leaf n)

-- a signed number or the number of an enumeration, in decimal
abbrev pub signed_leaf : ℤ → Leaf
signed_leaf n = same_leaf (signed_decimal n)

abbrev pub signed_tree : ℤ → Tree
signed_tree n = text (signed_leaf n)

-- `true` or `false`
abbrev pub boolean_leaf : Bool → Leaf
boolean_leaf b = same_leaf (boolean_text b)

abbrev pub boolean_tree : Bool → Tree
boolean_tree b = text (boolean_leaf b)

-- a Double: `0x` and the sixteen digits of its pattern, or its decimal
abbrev pub double_leaf : DoubleBits → Leaf
double_leaf d = double_of d.bits

abbrev pub double : DoubleBits → Tree
double d = text (double_leaf d)

-- a String: its text, control characters and backslashes escaped
abbrev pub string_leaf : Option (List ℕ) → Leaf
string_leaf s = same_leaf (escaped_string s)

abbrev pub string_tree : Option (List ℕ) → Tree
string_tree s = text (string_leaf s)

-- a ByteString, in base64
abbrev pub bytes_leaf : Option (List ℕ) → Leaf
bytes_leaf b = same_leaf (base64_text b)

abbrev pub byte_string_tree : Option (List ℕ) → Tree
byte_string_tree b = text (bytes_leaf b)

-- a DateTime: its ticks (OPC 10000-6, 5.2.2.5), or its time
abbrev pub date_time_tree : DateTime → Tree
date_time_tree t = text (moment_of t)

-- a StatusCode: eight upper case digits, and if names are wanted the standard's name
abbrev pub code_leaf : StatusCode → Leaf
code_leaf c = fixed (λ names. named_code names c.code) (λ names. named_code names c.code)

-- a StatusCode, as a tree
abbrev pub status_code_tree : StatusCode → Tree
status_code_tree c = text (code_leaf c)

-- a NodeId: its text, control characters and backslashes escaped; the null NodeId is `i=0`
abbrev pub node_leaf : NodeId → Leaf
node_leaf id = same_leaf (escaped (node_text id))

abbrev pub node_id_tree : NodeId → Tree
node_id_tree id = text (node_leaf id)

-- ---- values that are shown by their bytes

-- the bytes of a value's canonical encoding, as text; `null` for a null one
unfoldable pub encoded_text : {A : Type 0} → Format A → (A → Bool) → A → List ℕ
encoded_text format is_null value = cond (is_null value) (codes "null") (written_text (format.encodable value) (format.canonical value))

-- the text of a value as people write it; `null` for a null one
abbrev pub plain_or_null : {A : Type 0} → (A → Bool) → (A → List ℕ) → A → List ℕ
plain_or_null is_null plain value = cond (is_null value) (codes "null") (plain value)

-- a value by its bytes, or as people write it
abbrev pub encoded : {A : Type 0} → Format A → (A → Bool) → (Bool → A → List ℕ) → A → Leaf
encoded format is_null plain value = fixed (λ names. encoded_text format is_null value) (λ names. plain_or_null is_null (plain names) value)

-- neither a namespace nor a name
abbrev pub is_null_name : QualifiedName → Bool
is_null_name q = nat_eq q.namespace 0 && is_none q.name

-- neither a locale nor a text
abbrev pub is_null_localized : LocalizedText → Bool
is_null_localized t = is_none t.locale && is_none t.text

-- the number 0
abbrev pub is_zero : Identifier → Bool
is_zero (Numeric n) = nat_eq n 0
is_zero (Text t) = false
is_zero (Guid g) = false
is_zero (Opaque b) = false

-- the null NodeId (OPC 10000-6, 5.2.2.9)
abbrev pub is_null_id : NodeId → Bool
is_null_id id = nat_eq id.namespace 0 && is_zero id.identifier

-- no body at all, which is neither a null ByteString nor a null XmlElement
abbrev pub is_absent : ExtensionBody → Bool
is_absent Absent = true
is_absent (ByteString b) = false
is_absent (Xml x) = false

-- neither a type nor a body
abbrev pub is_null_object : ExtensionObject → Bool
is_null_object x = is_null_id x.type_id && is_absent x.body

-- whether no id of a DiagnosticInfo is present
abbrev pub has_no_id : DiagnosticFields → Bool
has_no_id f = is_none f.symbolic_id && is_none f.namespace_uri && is_none f.locale && is_none f.localized_text

-- whether no field of a DiagnosticInfo is present, except perhaps its inner one
abbrev pub has_no_field : DiagnosticFields → Bool
has_no_field f = has_no_id f && is_none f.additional_info && is_none f.inner_status_code

-- whether no field of a DiagnosticInfo is present
abbrev pub is_empty : DiagnosticData → Bool
is_empty (innermost f) = has_no_field f
is_empty (around f d) = false

-- a QualifiedName: as `1:Pump`
abbrev pub name_leaf : QualifiedName → Leaf
name_leaf q = encoded (flat name_format) is_null_name (λ names. plain_name false) q

abbrev pub qualified_name_tree : QualifiedName → Tree
qualified_name_tree q = text (name_leaf q)

-- a LocalizedText: as `en|Pump`
abbrev pub localized_leaf : LocalizedText → Leaf
localized_leaf t = encoded (flat localized_format) is_null_localized (λ names. plain_localized false) t

abbrev pub localized_text_tree : LocalizedText → Tree
localized_text_tree t = text (localized_leaf t)

-- an ExtensionObject by its bytes
abbrev pub object_text : ExtensionObject → List ℕ
object_text x = encoded_text (flat object_format) is_null_object x

abbrev pub object_leaf : ExtensionObject → Leaf
object_leaf x = same_leaf (object_text x)

-- a DiagnosticInfo: by its fields, as `{ symbolic_id 1 }`
abbrev pub diagnostic_leaf : DiagnosticInfo → Leaf
diagnostic_leaf d = encoded diagnostic_format (λ v. is_empty (diagnostic_of v)) (λ names v. plain_diagnostic names (diagnostic_of v)) d

abbrev pub diagnostic_info : DiagnosticInfo → Tree
diagnostic_info d = text (diagnostic_leaf d)

-- ---- identity tokens

-- AnonymousIdentityToken (OPC 10000-4, 7.41.3)
abbrev pub anonymous_token_entries : AnonymousIdentityToken → Fields
anonymous_token_entries m = named ((codes "policy_id", string_tree m.policy_id) ∷ [])

-- the fields of the other tokens in order, as they are encoded

-- UserNameIdentityToken (OPC 10000-4, 7.41.4)
abbrev pub UserNameParts : Type 0
UserNameParts = Option (List ℕ) × (Option (List ℕ) × (Option (List ℕ) × Option (List ℕ)))

abbrev pub user_name_token_entries : UserNameParts → Fields
user_name_token_entries = λ (policy_id, (user_name, (password, encryption_algorithm))). named (
    (codes "policy_id", string_tree policy_id)
    ∷ (codes "user_name", string_tree user_name)
    ∷ (codes "password", byte_string_tree password)
    ∷ (codes "encryption_algorithm", string_tree encryption_algorithm)
    ∷ [])

-- X509IdentityToken (OPC 10000-4, 7.41.5)
abbrev pub CertificateParts : Type 0
CertificateParts = Option (List ℕ) × Option (List ℕ)

abbrev pub certificate_token_entries : CertificateParts → Fields
certificate_token_entries = λ (policy_id, certificate_data). named (
    (codes "policy_id", string_tree policy_id)
    ∷ (codes "certificate_data", byte_string_tree certificate_data)
    ∷ [])

-- IssuedIdentityToken (OPC 10000-4, 7.41.6)
abbrev pub IssuedParts : Type 0
IssuedParts = Option (List ℕ) × (Option (List ℕ) × Option (List ℕ))

abbrev pub issued_token_entries : IssuedParts → Fields
issued_token_entries = λ (policy_id, (token_data, encryption_algorithm)). named (
    (codes "policy_id", string_tree policy_id)
    ∷ (codes "token_data", byte_string_tree token_data)
    ∷ (codes "encryption_algorithm", string_tree encryption_algorithm)
    ∷ [])

-- the fields of the token that bytes encode, with nothing after it
abbrev pub anonymous_token_of : List ℕ → Option AnonymousIdentityToken
anonymous_token_of octets = body_of anonymous_identity_token octets

abbrev pub user_name_token_of : List ℕ → Option UserNameParts
user_name_token_of octets = body_of (pair (flat string_format) (pair (flat string_format) (pair (flat counted) (flat string_format)))) octets

abbrev pub certificate_token_of : List ℕ → Option CertificateParts
certificate_token_of octets = body_of (pair (flat string_format) (flat counted)) octets

abbrev pub issued_token_of : List ℕ → Option IssuedParts
issued_token_of octets = body_of (pair (flat string_format) (pair (flat counted) (flat string_format))) octets

-- a token by the name of its type, and its fields
abbrev pub token_as : {A : Type 0} → List ℕ → (A → Tree) → Option A → Option (List ℕ × Tree)
token_as name tree found = option_map (λ token. (name, tree token)) found

-- the identity token that bytes of an encoding with this number encode, if they encode one (OPC
-- 10000-6, A.3)
abbrev pub token_numbered : ℕ → List ℕ → Option (List ℕ × Tree)
token_numbered n octets =
    cond (nat_eq n 321) (token_as (codes "AnonymousIdentityToken") (λ m. structure (anonymous_token_entries m)) (anonymous_token_of octets)) (
    cond (nat_eq n 324) (token_as (codes "UserNameIdentityToken") (λ m. structure (user_name_token_entries m)) (user_name_token_of octets)) (
    cond (nat_eq n 327) (token_as (codes "X509IdentityToken") (λ m. structure (certificate_token_entries m)) (certificate_token_of octets)) (
    cond (nat_eq n 940) (token_as (codes "IssuedIdentityToken") (λ m. structure (issued_token_entries m)) (issued_token_of octets))
    None)))

-- the bytes of a body of bytes, none for null
abbrev pub octets_of_body : ExtensionBody → Option (List ℕ)
octets_of_body Absent = None
octets_of_body (ByteString b) = b
octets_of_body (Xml x) = None

-- the identity token that an ExtensionObject holds, if it holds one
abbrev pub token_of : ExtensionObject → Option (List ℕ × Tree)
token_of x = standard_number x.type_id >>= λ n. octets_of_body x.body >>= λ octets. token_numbered n octets

-- what the line of an ExtensionObject says: its bytes; as people write it, of an identity token the
-- name of its type
abbrev pub object_line : ExtensionObject → Option (List ℕ × Tree) → Leaf
object_line x None = object_leaf x
object_line x (Some token) = fixed (λ names. object_text x) (λ names. token.0)

-- what stands below that line as people write it: the fields of an identity token
abbrev pub below_object : Option (List ℕ × Tree) → Tree
below_object None = structure no_fields
below_object (Some token) = token.1

-- an ExtensionObject that holds this identity token, or none
abbrev pub object_or_token : ExtensionObject → Option (List ℕ × Tree) → Tree
object_or_token x token = opened (object_line x token) (below_object token)

abbrev pub extension_object_tree : ExtensionObject → Tree
extension_object_tree x = object_or_token x (token_of x)
