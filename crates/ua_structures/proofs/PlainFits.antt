-- Structures with nothing in them but what they are made for can be encoded.
use Rattle.std.specs.Prelude.{ℕ, ℤ, pos, ◌<◌, ◌^◌, List, [], ◌∷◌, true, IsTrue, Option, Some, None, is_some, nat_lt, length}
use Rattle.std.specs.List.{list_all}
use Rattle.std.proofs.Common.{refl, arith}
use Rattle.std.proofs.lemmas.Bool.{lt-ltb}
use Rattle.ua_builtin.specs.Counted.{text, counted, first_negative}
use Rattle.ua_builtin.specs.DoubleBits.{double_bits}
use Rattle.ua_builtin.specs.ExtensionObject.{extension_object}
use Rattle.ua_builtin.specs.Flags.{flagged_text}
use Rattle.ua_builtin.specs.Format.{Format, flat}
use Rattle.ua_builtin.specs.LocalizedText.{localized_text}
use Rattle.ua_builtin.specs.NodeId.{node_id}
use Rattle.ua_builtin.specs.QualifiedName.{qualified_name}
use Rattle.ua_builtin.specs.Status.{status_code}
use Rattle.ua_builtin.specs.declared.node_id.NodeId.{NodeId}
use Rattle.ua_builtin.specs.declared.status_code.StatusCode.{StatusCode}
use Rattle.ua_builtin.specs.declared.extension_object.ExtensionObject.{ExtensionObject}
use Rattle.ua_wire.specs.declared.double_bits.DoubleBits.{DoubleBits}
use Rattle.ua_diagnostic.specs.Formats.{diagnostic_format}
use Rattle.ua_variant.specs.Formats.{data_value_format}
use Rattle.ua_variant.specs.declared.values.DataValue.{DataValue}
use Rattle.ua_opening.specs.Array.{array}
use Rattle.ua_structures.specs.Attribute.{read_value_id, read_request, read_response, write_value, write_request, write_response}
use Rattle.ua_structures.specs.Discovery.{application_description, endpoint_description, get_endpoints_request}
use Rattle.ua_opening.specs.Field.{byte_string, int32, string}
use Rattle.ua_opening.specs.Header.{request_header, response_header}
use Rattle.ua_structures.specs.Plain.{value_of_node, value_for_node, read_of, write_of, read_response_of, write_response_of, application_of}
use Rattle.ua_structures.specs.Plain.{get_endpoints_request_of, null_signature, create_session_of, session_of, activate_session_of, activated_of}
use Rattle.ua_structures.specs.Session.{signed_software_certificate, signature_data, create_session_request}
use Rattle.ua_structures.specs.Session.{create_session_response, activate_session_request, activate_session_response}
use Rattle.ua_structures.specs.declared.attribute.ReadValueId.{ReadValueId}
use Rattle.ua_structures.specs.declared.attribute.WriteValue.{WriteValue}
use Rattle.ua_structures.specs.declared.discovery.ApplicationDescription.{ApplicationDescription}
use Rattle.ua_structures.specs.declared.discovery.EndpointDescription.{EndpointDescription}
use Rattle.ua_opening.specs.declared.header.RequestHeader.{RequestHeader}
use Rattle.ua_opening.specs.declared.header.ResponseHeader.{ResponseHeader}
use Rattle.ua_opening.proofs.PlainFits.{and_true, null_string_fits, null_octets_fit, null_array_fits, uint32_fits}

no_name_fits : IsTrue (qualified_name.encodable (record { namespace = 0; name = None }))
unfolding qualified_name text counted
no_name_fits = refl

-- ---- arrays

array_fits_by : {A : Type 0} (f : Format A) (v : List A) → length v < first_negative → IsTrue (list_all f.encodable v) → IsTrue ((array f).encodable (Some v))
unfolding array
array_fits_by f v few each = and_true (nat_lt (length v) first_negative) (list_all f.encodable v) (lt-ltb (length v) first_negative few) each

-- ---- discovery

-- a text that is flagged where it is not null
flagged_fits : (t : Option (List ℕ)) → IsTrue (string.encodable t) → IsTrue ((flagged_text (is_some t)).encodable t)
flagged_fits None h = refl
flagged_fits (Some x) h = h

application_fits_by : (kind : ℤ) (uri name : Option (List ℕ)) (urls : Option (List (Option (List ℕ)))) → IsTrue (int32.encodable kind)
    → IsTrue (string.encodable uri) → IsTrue (string.encodable name)
    → IsTrue ((array string).encodable urls) → IsTrue (application_description.encodable (application_of kind uri name urls))
unfolding application_description localized_text
application_fits_by kind uri name urls is u n us =
    and_true (string.encodable uri) _ u
    (and_true (string.encodable None) _ null_string_fits (and_true ((flagged_text (is_some name)).encodable name) _ (flagged_fits name n)
    (and_true (int32.encodable kind) _ is (and_true (string.encodable None) _ null_string_fits (and_true (string.encodable None) _ null_string_fits us)))))

pub server_fits : (uri name : Option (List ℕ)) (urls : Option (List (Option (List ℕ)))) → IsTrue (string.encodable uri) → IsTrue (string.encodable name)
    → IsTrue ((array string).encodable urls)
    → IsTrue (application_description.encodable (application_of (pos 0) uri name urls))
server_fits uri name urls = application_fits_by (pos 0) uri name urls refl

pub client_fits : (uri name : Option (List ℕ)) → IsTrue (string.encodable uri) → IsTrue (string.encodable name)
    → IsTrue (application_description.encodable (application_of (pos 1) uri name None))
client_fits uri name u n = application_fits_by (pos 1) uri name None refl u n (null_array_fits string)

pub endpoints_fit : (header : RequestHeader) (url : Option (List ℕ)) → IsTrue (request_header.encodable header) → IsTrue (string.encodable url)
    → IsTrue (get_endpoints_request.encodable (get_endpoints_request_of header url))
unfolding get_endpoints_request
endpoints_fit header url h u =
    and_true (request_header.encodable header) _ h
    (and_true (string.encodable url) _ u (and_true ((array string).encodable None) _ (null_array_fits string) (null_array_fits string)))

-- ---- sessions

null_signature_fits : IsTrue (signature_data.encodable null_signature)
unfolding signature_data text counted
null_signature_fits = refl

pub create_session_fits : (header : RequestHeader) (client : ApplicationDescription) (url name : Option (List ℕ)) (timeout : DoubleBits)
    → IsTrue (double_bits.encodable timeout)
    → IsTrue (request_header.encodable header) → IsTrue (application_description.encodable client) → IsTrue (string.encodable url)
    → IsTrue (string.encodable name)
    → IsTrue (create_session_request.encodable (create_session_of header client url name timeout))
unfolding create_session_request
create_session_fits header client url name timeout t h c u n =
    and_true (request_header.encodable header) _ h (and_true (application_description.encodable client) _ c (and_true (string.encodable None) _ null_string_fits
    (and_true (string.encodable url) _ u
    (and_true (string.encodable name) _ n (and_true (byte_string.encodable None) _ null_octets_fit (and_true (byte_string.encodable None) _ null_octets_fit
    (and_true (double_bits.encodable timeout) _ t refl)))))))

pub session_fits : (header : ResponseHeader) (id token : NodeId) (timeout : DoubleBits) (endpoints : Option (List EndpointDescription)) (most : ℕ)
    → IsTrue (double_bits.encodable timeout) → most < 2 ^ 32
    → IsTrue (response_header.encodable header) → IsTrue (node_id.encodable id) → IsTrue (node_id.encodable token)
    → IsTrue ((array endpoint_description).encodable endpoints)
    → IsTrue (create_session_response.encodable (session_of header id token timeout endpoints most))
unfolding create_session_response
session_fits header id token timeout endpoints most t m h i k es =
    and_true (response_header.encodable header) _ h
    (and_true (node_id.encodable id) _ i (and_true (node_id.encodable token) _ k (and_true (double_bits.encodable timeout) _ t
    (and_true (byte_string.encodable None) _ null_octets_fit
    (and_true (byte_string.encodable None) _ null_octets_fit (and_true ((array endpoint_description).encodable endpoints) _ es
    (and_true ((array signed_software_certificate).encodable None) _ (null_array_fits signed_software_certificate)
    (and_true (signature_data.encodable null_signature) _ null_signature_fits
    (uint32_fits most m)))))))))

pub activate_session_fits : (header : RequestHeader) (identity : ExtensionObject) → IsTrue (request_header.encodable header)
    → IsTrue (extension_object.encodable identity)
    → IsTrue (activate_session_request.encodable (activate_session_of header identity))
unfolding activate_session_request
activate_session_fits header identity h i =
    and_true (request_header.encodable header) _ h (and_true (signature_data.encodable null_signature) _ null_signature_fits
    (and_true ((array signed_software_certificate).encodable None) _ (null_array_fits signed_software_certificate)
    (and_true ((array string).encodable None) _ (null_array_fits string)
    (and_true (extension_object.encodable identity) _ i null_signature_fits))))

pub activated_fits : (header : ResponseHeader) → IsTrue (response_header.encodable header) → IsTrue (activate_session_response.encodable (activated_of header))
unfolding activate_session_response
activated_fits header h =
    and_true (response_header.encodable header) _ h (and_true (byte_string.encodable None) _ null_octets_fit
    (and_true ((array (flat status_code)).encodable None) _ (null_array_fits (flat status_code)) (null_array_fits diagnostic_format)))

-- ---- Read and Write

pub read_value_id_fits : (id : NodeId) → IsTrue (node_id.encodable id) → IsTrue (read_value_id.encodable (value_of_node id))
unfolding read_value_id
read_value_id_fits id h = and_true (node_id.encodable id) _ h (and_true (string.encodable None) _ null_string_fits no_name_fits)

pub write_value_fits : (id : NodeId) (value : DataValue) → IsTrue (node_id.encodable id) → IsTrue (data_value_format.encodable value)
    → IsTrue (write_value.encodable (value_for_node id value))
unfolding write_value
write_value_fits id value h k = and_true (node_id.encodable id) _ h (and_true (string.encodable None) _ null_string_fits k)

pub read_request_fits : (header : RequestHeader) (items : List ReadValueId) → IsTrue (request_header.encodable header) → length items < first_negative
    → IsTrue (list_all read_value_id.encodable items) → IsTrue (read_request.encodable (read_of header items))
unfolding read_request double_bits
read_request_fits header items h few each = and_true (request_header.encodable header) _ h (array_fits_by read_value_id items few each)

pub read_item_fits : (header : RequestHeader) (item : ReadValueId) → IsTrue (request_header.encodable header) → IsTrue (read_value_id.encodable item)
    → IsTrue (read_request.encodable (read_of header (item ∷ [])))
read_item_fits header item h k = read_request_fits header (item ∷ []) h (omega arith) (and_true (read_value_id.encodable item) true k refl)

pub write_request_fits : (header : RequestHeader) (items : List WriteValue) → IsTrue (request_header.encodable header) → length items < first_negative
    → IsTrue (list_all write_value.encodable items) → IsTrue (write_request.encodable (write_of header items))
unfolding write_request
write_request_fits header items h few each = and_true (request_header.encodable header) _ h (array_fits_by write_value items few each)

pub write_item_fits : (header : RequestHeader) (item : WriteValue) → IsTrue (request_header.encodable header) → IsTrue (write_value.encodable item)
    → IsTrue (write_request.encodable (write_of header (item ∷ [])))
write_item_fits header item h k = write_request_fits header (item ∷ []) h (omega arith) (and_true (write_value.encodable item) true k refl)

pub read_response_fits : (header : ResponseHeader) (values : List DataValue) → IsTrue (response_header.encodable header) → length values < first_negative
    → IsTrue (list_all data_value_format.encodable values) → IsTrue (read_response.encodable (read_response_of header values))
unfolding read_response
read_response_fits header values h few each =
    and_true (response_header.encodable header) _ h
    (and_true ((array data_value_format).encodable (Some values)) _ (array_fits_by data_value_format values few each) (null_array_fits diagnostic_format))

pub write_response_fits : (header : ResponseHeader) (codes : List StatusCode) → IsTrue (response_header.encodable header) → length codes < first_negative
    → IsTrue (list_all status_code.encodable codes) → IsTrue (write_response.encodable (write_response_of header codes))
unfolding write_response
write_response_fits header codes h few each =
    and_true (response_header.encodable header) _ h
    (and_true ((array (flat status_code)).encodable (Some codes)) _ (array_fits_by (flat status_code) codes few each) (null_array_fits diagnostic_format))
