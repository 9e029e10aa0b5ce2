-- How many octets an encoding of a built-in type takes at least.
use Rattle.std.specs.Prelude.{◌≡◌, ℕ, ◌≤◌, List, ◌∷◌, ◌++◌, length}
use Rattle.std.proofs.Common.{ap, arith, length-append}
use Rattle.std.specs.Int.{w64}
use Rattle.ua_wire.specs.Number.{IsNumber, number_octets}
use Rattle.ua_wire.specs.Join.{number, both}
use Rattle.ua_wire.specs.Counted.{text, counted, AreOctets}
use Rattle.ua_wire.specs.Signed.{signed}
use Rattle.ua_wire.specs.Least.{TakesLeast}
use Rattle.ua_wire.proofs.NumbersRead.{length-number_octets}
use Rattle.ua_wire.proofs.Leasts.{number_least, octets_least, pair_least, image_least, signed_least, counted_least, text_least}
use Rattle.ua_builtin.specs.DateTime.{date_time, of_ticks}
use Rattle.ua_builtin.specs.Guid.{guid, swapped}
use Rattle.ua_builtin.specs.XmlElement.{xml_element, of_octets}
use Rattle.ua_builtin.specs.Status.{status_code, of_code}
use Rattle.ua_builtin.specs.QualifiedName.{qualified_name, qualified}
use Rattle.ua_builtin.specs.NodeId.{node_id, EncodesNodeId, two_octet, four_octet, numeric_form, string_form, guid_form, opaque_form}
use Rattle.ua_builtin.specs.LocalizedText.{localized_text, EncodesLocalizedText}
use Rattle.ua_builtin.specs.ExpandedNodeId.{expanded_node_id, EncodesExpanded}
use Rattle.ua_builtin.specs.ExtensionObject.{extension_object, extension, body, EncodesBody}
use Rattle.ua_builtin.specs.declared.node_id.NodeId.{NodeId}
use Rattle.ua_builtin.specs.declared.localized_text.LocalizedText.{LocalizedText}
use Rattle.ua_builtin.specs.declared.expanded_node_id.ExpandedNodeId.{ExpandedNodeId}
use Rattle.ua_builtin.specs.declared.extension_object.ExtensionBody.{ExtensionBody}
use Rattle.ua_builtin.specs.declared.extension_object.ExtensionBody.TheVariants.{Absent, ByteString, Xml}

pub date_time_least : TakesLeast 8 date_time.encodes
unfolding date_time
date_time_least = image_least 8 of_ticks (signed w64).encodes (signed_least w64)

pub guid_least : TakesLeast 16 guid.encodes
unfolding guid
guid_least = image_least 16 swapped (AreOctets 16) (octets_least 16)

pub xml_element_least : TakesLeast 4 xml_element.encodes
unfolding xml_element
xml_element_least = image_least 4 of_octets counted.encodes counted_least

pub status_code_least : TakesLeast 4 status_code.encodes
unfolding status_code
status_code_least = image_least 4 of_code (IsNumber 4) (number_least 4)

pub qualified_name_least : TakesLeast 6 qualified_name.encodes
unfolding qualified_name
qualified_name_least = image_least 6 qualified (both (number 2) text).encodes (pair_least 2 4 (IsNumber 2) text.encodes (number_least 2) text_least)

-- behind an octet stands a number of two, and more
more_behind : (x n : ℕ) (b back : List ℕ) → b ≡ x ∷ (number_octets 2 n ++ back) → 2 ≤ length b
more_behind x n b back e = omega (arith, ap length e, length-append (number_octets 2 n) back, length-number_octets 2 n)

form_least : (v : NodeId) (b : List ℕ) → EncodesNodeId v b → 2 ≤ length b
form_least v b (two_octet h) = omega (arith, ap length h.octets)
form_least v b (four_octet h) = omega (arith, ap length h.octets)
form_least v b (numeric_form h) = more_behind 2 h.namespace b (number_octets 4 h.id) h.octets
form_least v b (string_form h) = more_behind 3 h.namespace b h.back h.octets
form_least v b (guid_form h) = more_behind 4 h.namespace b h.back h.octets
form_least v b (opaque_form h) = more_behind 5 h.namespace b h.back h.octets

pub node_id_least : TakesLeast 2 node_id.encodes
unfolding node_id
node_id_least = form_least

mask_least : (v : LocalizedText) (b : List ℕ) → EncodesLocalizedText v b → 1 ≤ length b
mask_least v b h = omega (arith, ap length h.octets)

pub localized_text_least : TakesLeast 1 localized_text.encodes
unfolding localized_text
localized_text_least = mask_least

octet_least : (v : ExpandedNodeId) (b : List ℕ) → EncodesExpanded v b → 2 ≤ length b
octet_least v b h =
    let whole : 2 ≤ length (h.form ∷ h.node) = form_least v.node_id (h.form ∷ h.node) h.node_encoded in
    omega (arith, ap length h.octets, length-append h.node (h.uri ++ h.index))

pub expanded_node_id_least : TakesLeast 2 expanded_node_id.encodes
unfolding expanded_node_id
expanded_node_id_least = octet_least

body_least : (v : ExtensionBody) (b : List ℕ) → EncodesBody v b → 1 ≤ length b
body_least Absent b h = omega (arith, ap length h)
body_least (ByteString v) b h = omega (arith, ap length h.1)
body_least (Xml v) b h = omega (arith, ap length h.1)

pub extension_object_least : TakesLeast 3 extension_object.encodes
unfolding extension_object
extension_object_least = image_least 3 extension (both node_id body).encodes (pair_least 2 1 node_id.encodes body.encodes node_id_least body_least)
