-- NodeIds (OPC 10000-6, 5.2.2.9): what names a node, and the forms in which it is encoded.
-- The node 72 of the namespace 0 is 00 48; "Hot" of the namespace 1 is
-- 03 01 00 03 00 00 00 48 6F 74.
use Rattle.std.specs.Prelude.{◌≡◌, ◌<◌, ◌^◌, ℕ, List, [], ◌∷◌, ◌++◌, Bool, true, false, ◌&&◌, cond, Option, None, nat_eq, nat_lt}
use Rattle.ua_wire.specs.Exact.{then_read}
use Rattle.ua_wire.specs.Number.{number_at, number_octets}
use Rattle.ua_wire.specs.Format.{Flat}
use Rattle.ua_wire.specs.Join.{number, nothing, both, image}
use Rattle.ua_wire.specs.Counted.{text, counted}
use Rattle.ua_builtin.specs.Guid.{guid}
use Rattle.ua_builtin.specs.declared.guid.Guid.{Guid}
use Rattle.ua_builtin.specs.declared.node_id.NodeId.{NodeId}
use Rattle.ua_builtin.specs.declared.node_id.Identifier.{Identifier}
use Rattle.ua_builtin.specs.declared.node_id.Identifier.TheVariants.{Numeric, Text, Guid as Global, Opaque}

-- the NodeId of a namespace and an identifier
abbrev pub node : ℕ → Identifier → NodeId
node n i = record { namespace = n; identifier = i }

-- the null NodeId: i=0
abbrev pub null_id : NodeId
null_id = node 0 (Numeric 0)

-- ---- which bytes encode it

-- 0x00, and the id as Byte; the namespace is 0
pub record TwoOctet (v : NodeId) (b : List ℕ) : Type 0 where
  pub id : ℕ
  pub is : v ≡ node 0 (Numeric id)
  pub id_fits : id < 256
  pub octets : b ≡ 0x00 ∷ id ∷ []

-- 0x01, the namespace as Byte, and the id as UInt16
pub record FourOctet (v : NodeId) (b : List ℕ) : Type 0 where
  pub namespace : ℕ
  pub id : ℕ
  pub is : v ≡ node namespace (Numeric id)
  pub namespace_fits : namespace < 256
  pub id_fits : id < 2 ^ 16
  pub octets : b ≡ 0x01 ∷ namespace ∷ number_octets 2 id

-- 0x02, the namespace as UInt16, and the id as UInt32
pub record NumericForm (v : NodeId) (b : List ℕ) : Type 0 where
  pub namespace : ℕ
  pub id : ℕ
  pub is : v ≡ node namespace (Numeric id)
  pub namespace_fits : namespace < 2 ^ 16
  pub id_fits : id < 2 ^ 32
  pub octets : b ≡ 0x02 ∷ (number_octets 2 namespace ++ number_octets 4 id)

-- 0x03, the namespace as UInt16, and the id as String
pub record StringForm (v : NodeId) (b : List ℕ) : Type 0 where
  pub namespace : ℕ
  pub id : Option (List ℕ)
  pub back : List ℕ
  pub is : v ≡ node namespace (Text id)
  pub namespace_fits : namespace < 2 ^ 16
  pub id_encoded : text.encodes id back
  pub octets : b ≡ 0x03 ∷ (number_octets 2 namespace ++ back)

-- 0x04, the namespace as UInt16, and the id as Guid
pub record GuidForm (v : NodeId) (b : List ℕ) : Type 0 where
  pub namespace : ℕ
  pub id : Guid
  pub back : List ℕ
  pub is : v ≡ node namespace (Global id)
  pub namespace_fits : namespace < 2 ^ 16
  pub id_encoded : guid.encodes id back
  pub octets : b ≡ 0x04 ∷ (number_octets 2 namespace ++ back)

-- 0x05, the namespace as UInt16, and the id as ByteString
pub record OpaqueForm (v : NodeId) (b : List ℕ) : Type 0 where
  pub namespace : ℕ
  pub id : Option (List ℕ)
  pub back : List ℕ
  pub is : v ≡ node namespace (Opaque id)
  pub namespace_fits : namespace < 2 ^ 16
  pub id_encoded : counted.encodes id back
  pub octets : b ≡ 0x05 ∷ (number_octets 2 namespace ++ back)

-- the bytes encode the NodeId in one of the six forms
pub data EncodesNodeId (v : NodeId) (b : List ℕ) : Type 0 where
  two_octet : TwoOctet v b → EncodesNodeId v b
  four_octet : FourOctet v b → EncodesNodeId v b
  numeric_form : NumericForm v b → EncodesNodeId v b
  string_form : StringForm v b → EncodesNodeId v b
  guid_form : GuidForm v b → EncodesNodeId v b
  opaque_form : OpaqueForm v b → EncodesNodeId v b

-- ---- kinds of identifier, and what each holds

-- the identifier is a number
abbrev pub is_numeric : Identifier → Bool
is_numeric (Numeric n) = true
is_numeric (Text t) = false
is_numeric (Global g) = false
is_numeric (Opaque b) = false

-- the identifier is a String
abbrev pub is_textual : Identifier → Bool
is_textual (Numeric n) = false
is_textual (Text t) = true
is_textual (Global g) = false
is_textual (Opaque b) = false

-- the identifier is a Guid
abbrev pub is_guid : Identifier → Bool
is_guid (Numeric n) = false
is_guid (Text t) = false
is_guid (Global g) = true
is_guid (Opaque b) = false

-- the identifier is opaque, a ByteString
abbrev pub is_opaque : Identifier → Bool
is_opaque (Numeric n) = false
is_opaque (Text t) = false
is_opaque (Global g) = false
is_opaque (Opaque b) = true

-- the number that is the identifier, and 0 for any other identifier
abbrev pub number_of_identifier : Identifier → ℕ
number_of_identifier (Numeric n) = n
number_of_identifier (Text t) = 0
number_of_identifier (Global g) = 0
number_of_identifier (Opaque b) = 0

-- the String that is the identifier, and null for any other identifier
abbrev pub text_of_identifier : Identifier → Option (List ℕ)
text_of_identifier (Numeric n) = None
text_of_identifier (Text t) = t
text_of_identifier (Global g) = None
text_of_identifier (Opaque b) = None

-- the Guid that is the identifier, and one without bytes for any other identifier
abbrev pub guid_of : Identifier → Guid
guid_of (Numeric n) = record { uuid = [] }
guid_of (Text t) = record { uuid = [] }
guid_of (Global g) = g
guid_of (Opaque b) = record { uuid = [] }

-- the ByteString that is the identifier, and null for any other identifier
abbrev pub octets_of_identifier : Identifier → Option (List ℕ)
octets_of_identifier (Numeric n) = None
octets_of_identifier (Text t) = None
octets_of_identifier (Global g) = None
octets_of_identifier (Opaque b) = b

-- ---- the forms, as they are read and written

-- form 0x00: the namespace is 0, and the id is a Byte
abbrev pub is_short : NodeId → Bool
is_short v = nat_eq v.namespace 0 && is_numeric v.identifier

-- form 0x00: the id as Byte, in the namespace 0
abbrev pub two_octets : Flat NodeId
two_octets = image (λ n. node 0 (Numeric n)) (λ v. number_of_identifier v.identifier) is_short (number 1)

-- forms 0x01 and 0x02: namespace and id, of this many bytes
abbrev pub numeric : ℕ → ℕ → Flat NodeId
numeric m n = image (λ p. node p.0 (Numeric p.1)) (λ v. (v.namespace, number_of_identifier v.identifier)) (λ v. is_numeric v.identifier)
    (both (number m) (number n))

-- form 0x03: namespace UInt16 and a String
abbrev pub textual : Flat NodeId
textual = image (λ p. node p.0 (Text p.1)) (λ v. (v.namespace, text_of_identifier v.identifier)) (λ v. is_textual v.identifier) (both (number 2) text)

-- form 0x04: namespace UInt16 and a Guid
abbrev pub by_guid : Flat NodeId
by_guid = image (λ p. node p.0 (Global p.1)) (λ v. (v.namespace, guid_of v.identifier)) (λ v. is_guid v.identifier) (both (number 2) guid)

-- form 0x05: namespace UInt16 and a ByteString
abbrev pub opaque : Flat NodeId
opaque = image (λ p. node p.0 (Opaque p.1)) (λ v. (v.namespace, octets_of_identifier v.identifier)) (λ v. is_opaque v.identifier) (both (number 2) counted)

-- what follows the form byte, for each form from 0x00 to 0x05; there is no other
abbrev pub in_form : ℕ → Flat NodeId
in_form form =
    cond (nat_eq form 0x00) two_octets
    (cond (nat_eq form 0x01) (numeric 1 2)
    (cond (nat_eq form 0x02) (numeric 2 4)
    (cond (nat_eq form 0x03) textual
    (cond (nat_eq form 0x04) by_guid
    (cond (nat_eq form 0x05) opaque nothing)))))

-- for a number the first form that fits
abbrev pub shortest_form : ℕ → ℕ → ℕ
shortest_form namespace number =
    cond (nat_eq namespace 0 && nat_lt number 256) 0x00
    (cond (nat_lt namespace 256 && nat_lt number 65536) 0x01 0x02)

-- the form in the canonical encoding: for a number the first that fits, else the one of the
-- identifier's kind
abbrev pub form_of : NodeId → ℕ
form_of v =
    cond (is_numeric v.identifier) (shortest_form v.namespace (number_of_identifier v.identifier))
    (cond (is_textual v.identifier) 0x03 (cond (is_guid v.identifier) 0x04 0x05))

-- the form byte, and what follows it
unfoldable pub node_id : Flat NodeId
node_id = record {
  encodes = EncodesNodeId;
  encodable = λ v. (in_form (form_of v)).encodable v;
  canonical = λ v. number_octets 1 (form_of v) ++ (in_form (form_of v)).canonical v;
  decode = then_read (number_at 1) (λ form. (in_form form).decode);
}
