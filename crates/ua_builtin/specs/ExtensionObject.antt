-- ExtensionObjects (OPC 10000-6, 5.2.2.15): a structure of any type, kept as its bytes.
-- The node 321 and the ByteString 07 are 01 00 41 01 01 01 00 00 00 07; without a body it ends in
-- 00.
use Rattle.std.specs.Prelude.{◌≡◌, ℕ, List, [], ◌∷◌, Bool, true, Some, None, cond, nat_eq, Option}
use Rattle.ua_wire.specs.Exact.{◌>>=◌, image_read}
use Rattle.ua_wire.specs.Number.{number_at}
use Rattle.ua_wire.specs.Format.{Flat}
use Rattle.ua_wire.specs.Join.{both, made}
use Rattle.ua_wire.specs.Counted.{counted}
use Rattle.ua_builtin.specs.XmlElement.{xml_element}
use Rattle.ua_builtin.specs.NodeId.{node_id, null_id}
use Rattle.ua_builtin.specs.declared.node_id.NodeId.{NodeId}
use Rattle.ua_builtin.specs.declared.extension_object.ExtensionObject.{ExtensionObject}
use Rattle.ua_builtin.specs.declared.extension_object.ExtensionBody.{ExtensionBody}
use Rattle.ua_builtin.specs.declared.extension_object.ExtensionBody.TheVariants.{Absent, ByteString, Xml}

-- ---- the body

-- 0x00 and no body; 0x01 and a ByteString; 0x02 and an XmlElement
abbrev pub EncodesBody : ExtensionBody → List ℕ → Type 0
EncodesBody Absent b = b ≡ 0x00 ∷ []
EncodesBody (ByteString v) b = (octets : List ℕ) × (b ≡ 0x01 ∷ octets) × counted.encodes v octets
EncodesBody (Xml v) b = (octets : List ℕ) × (b ≡ 0x02 ∷ octets) × xml_element.encodes v octets

-- the body can be encoded
abbrev pub body_fits : ExtensionBody → Bool
body_fits Absent = true
body_fits (ByteString v) = counted.encodable v
body_fits (Xml v) = xml_element.encodable v

-- the canonical encoding of the body
abbrev pub body_octets : ExtensionBody → List ℕ
body_octets Absent = 0x00 ∷ []
body_octets (ByteString v) = 0x01 ∷ counted.canonical v
body_octets (Xml v) = 0x02 ∷ xml_element.canonical v

-- after the byte for the kind of body; there are no others than 0x00, 0x01 and 0x02
abbrev pub behind_kind : ℕ → List ℕ → Option (ExtensionBody × List ℕ)
behind_kind kind octets =
    cond (nat_eq kind 0x00) (Some (Absent, octets))
    (cond (nat_eq kind 0x01) (image_read ByteString counted.decode octets)
    (cond (nat_eq kind 0x02) (image_read Xml xml_element.decode octets) None))

-- the body at the start of bytes
abbrev pub body_at : List ℕ → Option (ExtensionBody × List ℕ)
body_at octets = number_at 1 octets >>= λ kind. behind_kind kind.0 kind.1

-- a byte for the kind of body, and the body
abbrev pub body : Flat ExtensionBody
body = record {
  encodes = EncodesBody;
  encodable = body_fits;
  canonical = body_octets;
  decode = body_at;
}

-- ---- the whole

-- the ExtensionObject of the NodeId of its type's encoding and its body
abbrev pub extension : NodeId × ExtensionBody → ExtensionObject
extension p = record { type_id = p.0; body = p.1 }

-- the empty ExtensionObject: the null NodeId, and no body
abbrev pub null_object : ExtensionObject
null_object = extension (null_id, Absent)

-- the NodeId of the type's encoding, a byte for the kind of body, and the body
unfoldable pub extension_object : Flat ExtensionObject
extension_object = made extension (λ v. (v.type_id, v.body)) (both node_id body)
