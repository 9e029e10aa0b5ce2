-- ExpandedNodeIds (OPC 10000-6, 5.2.2.10): NodeIds with the URI of their namespace, or the index of
-- another server.
-- The node 72 of the server itself is 00 48; on the server 1 it is 40 48 01 00 00 00.
use Rattle.std.specs.Prelude.{◌≡◌, ◌+◌, ◌<◌, ◌^◌, ◌&&◌, ℕ, List, [], ◌∷◌, ◌++◌, Bool, true, false, not, Option, nat_eq, bit_and, is_some}
use Rattle.ua_wire.specs.Exact.{then_read}
use Rattle.ua_wire.specs.Number.{number_at, number_octets}
use Rattle.ua_wire.specs.Format.{Flat}
use Rattle.ua_wire.specs.Join.{number, both, made}
use Rattle.ua_builtin.specs.Flags.{has, flag_bit, flagged, flagged_text, EncodesFlagged}
use Rattle.ua_builtin.specs.NodeId.{in_form, form_of, EncodesNodeId}
use Rattle.ua_builtin.specs.declared.node_id.NodeId.{NodeId}
use Rattle.ua_builtin.specs.declared.expanded_node_id.ExpandedNodeId.{ExpandedNodeId}

-- ---- which bytes encode it

-- an index if it is flagged; otherwise it is 0, and has no bytes
abbrev pub EncodesIndex : Bool → ℕ → List ℕ → Type 0
EncodesIndex true index b = (index < 2 ^ 32) × (b ≡ number_octets 4 index)
EncodesIndex false index b = (index ≡ 0) × (b ≡ [])

-- a NodeId whose first byte has 0x80 added if the URI follows and 0x40 if the index does, in that
-- order
pub record EncodesExpanded (v : ExpandedNodeId) (b : List ℕ) : Type 0 where
  pub has_uri : Bool
  pub has_index : Bool
  pub form : ℕ
  pub node : List ℕ
  pub uri : List ℕ
  pub index : List ℕ
  pub node_encoded : EncodesNodeId v.node_id (form ∷ node)
  pub uri_encoded : EncodesFlagged has_uri v.namespace_uri uri
  pub index_encoded : EncodesIndex has_index v.server_index index
  pub octets : b ≡ (form + flag_bit 0x80 has_uri + flag_bit 0x40 has_index) ∷ (node ++ (uri ++ index))

-- ---- what is written

-- the index is that of the server itself, 0
abbrev pub is_here : ℕ → Bool
is_here index = nat_eq index 0

-- an index if it is flagged, else 0, the server itself
abbrev pub flagged_index : Bool → Flat ℕ
flagged_index = flagged (number 4) 0 is_here

-- a URI is flagged where it isn't null, an index where it isn't 0
abbrev pub flags_octet_of : ExpandedNodeId → ℕ
flags_octet_of v = form_of v.node_id + flag_bit 0x80 (is_some v.namespace_uri) + flag_bit 0x40 (not (is_here v.server_index))

-- each part can be encoded
abbrev pub expanded_fits : ExpandedNodeId → Bool
expanded_fits v =
    (in_form (form_of v.node_id)).encodable v.node_id
    && ((flagged_text (is_some v.namespace_uri)).encodable v.namespace_uri && (flagged_index (not (is_here v.server_index))).encodable v.server_index)

-- the form byte with its flags, what the form has after it, the URI unless it is null, and the
-- index unless it is 0
abbrev pub expanded_octets : ExpandedNodeId → List ℕ
expanded_octets v =
    number_octets 1 (flags_octet_of v)
    ++ ((in_form (form_of v.node_id)).canonical v.node_id
    ++ ((flagged_text (is_some v.namespace_uri)).canonical v.namespace_uri ++ (flagged_index (not (is_here v.server_index))).canonical v.server_index))

-- ---- what is read

-- the ExpandedNodeId of a NodeId, the URI of its namespace and the index of its server
abbrev pub expanded : NodeId × (Option (List ℕ) × ℕ) → ExpandedNodeId
expanded p = record { node_id = p.0; namespace_uri = p.1.0; server_index = p.1.1 }

-- after the byte: the NodeId of the form in its lower six bits, the URI if 0x80 is set, then the
-- index if 0x40 is
abbrev pub behind_octet : ℕ → Flat ExpandedNodeId
behind_octet octet =
    made expanded (λ v. (v.node_id, (v.namespace_uri, v.server_index)))
    (both (in_form (bit_and octet 0x3F)) (both (flagged_text (has octet 0x80)) (flagged_index (has octet 0x40))))

-- a NodeId whose form byte carries two flags, and what they flag
unfoldable pub expanded_node_id : Flat ExpandedNodeId
expanded_node_id = record {
  encodes = EncodesExpanded;
  encodable = expanded_fits;
  canonical = expanded_octets;
  decode = then_read (number_at 1) (λ octet. (behind_octet octet).decode);
}
