-- Each response can be written.
use Rattle.std.specs.Prelude.{◌≡◌, ◌<◌, ◌^◌, ℕ, [], ◌∷◌, Bool, true, false, IsTrue, Option, Some, None}
use Rattle.std.proofs.Common.{refl, ◌∙◌, ap, arith, lit<}
use Rattle.std.proofs.lemmas.Bool.{lt-ltb}
use Rattle.ua_builtin.specs.DoubleBits.{double_bits}
use Rattle.ua_builtin.specs.Format.{flat}
use Rattle.ua_builtin.specs.NodeId.{node_id}
use Rattle.ua_builtin.specs.Status.{status_code}
use Rattle.ua_variant.specs.Formats.{diagnostic_format}
use Rattle.ua_nodes.proofs.Fits.{both_are}
use Rattle.ua_nodes.proofs.IdFits.{numeric_fits}
use Rattle.ua_wire.specs.declared.double_bits.DoubleBits.{DoubleBits}
use Rattle.ua_services.proofs.ByKind.{response-encodable}
use Rattle.ua_services.specs.Response.{response}
use Rattle.ua_builtin.specs.declared.date_time.DateTime.{DateTime}
use Rattle.ua_opening.specs.declared.header.RequestHeader.{RequestHeader}
use Rattle.ua_services.specs.declared.response.Response.{Response}
use Rattle.ua_services.specs.declared.response.Response.TheVariants.{GetEndpoints as GetEndpointsMessage, CreateSession as CreateSessionMessage}
use Rattle.ua_services.specs.declared.response.Response.TheVariants.{ActivateSession as ActivateSessionMessage, Read as ReadMessage}
use Rattle.ua_services.specs.declared.response.Response.TheVariants.{Write as WriteMessage, ServiceFault as ServiceFaultMessage}
use Rattle.ua_services.specs.declared.response.ResponseKind.TheVariants.{GetEndpoints, CreateSession, ActivateSession, Read, Write, ServiceFault as Fault}
use Rattle.ua_opening.specs.Array.{array}
use Rattle.ua_structures.specs.Attribute.{read_response, write_response}
use Rattle.ua_structures.specs.Discovery.{endpoint_description, get_endpoints_response}
use Rattle.ua_opening.specs.Field.{byte_string, string}
use Rattle.ua_opening.specs.Header.{response_header, service_fault}
use Rattle.ua_structures.specs.Plain.{null_signature, session_of, activated_of}
use Rattle.ua_structures.specs.Session.{create_session_response, activate_session_response, signature_data, signed_software_certificate}
use Rattle.ua_structures.specs.declared.attribute.ReadResponse.{ReadResponse}
use Rattle.ua_structures.specs.declared.attribute.WriteResponse.{WriteResponse}
use Rattle.ua_opening.specs.declared.header.ResponseHeader.{ResponseHeader}
use Rattle.ua_opening.specs.declared.header.ServiceFault.{ServiceFault}
use Rattle.ua_variant.specs.Data.{VariantData, DataValueData}
use Rattle.ua_variant.specs.View.{data_value_of, data_fields_of, value_within}
use Rattle.ua_variant.specs.declared.values.DataValue.{DataValue}
use Rattle.ua_server.specs.Attributes.{value_from}
use Rattle.ua_server.specs.Endpoint.{description_of, IsEndpointEncodable}
use Rattle.ua_server.specs.Sessions.{endpoints_for}
use Rattle.ua_server.specs.Answer.{unless}
use Rattle.ua_server.specs.State.{State, session_id, session_token}
use Rattle.ua_server.specs.declared.endpoint.Endpoint.{Endpoint}
use Rattle.ua_server.proofs.EndpointFits.{no_text, no_octets, no_array, one_fits, description_fits}

pub fault_fits : (m : ServiceFault) → IsTrue (service_fault.encodable m) → IsTrue (response.encodable (ServiceFaultMessage m))
fault_fits m h = response-encodable Fault m ∙ h

-- ---- GetEndpoints

given_fit : (t : Bool) (e : Endpoint) → IsEndpointEncodable e → IsTrue ((array endpoint_description).encodable (Some (endpoints_for t (description_of e))))
unfolding array
given_fit true e w = one_fits endpoint_description (description_of e) (description_fits e w)
given_fit false e w = refl

pub endpoints_fit : (t : Bool) (e : Endpoint) (header : ResponseHeader) → IsEndpointEncodable e → IsTrue (response_header.encodable header)
    → IsTrue (response.encodable (GetEndpointsMessage (record { response_header = header; endpoints = Some (endpoints_for t (description_of e)) })))
unfolding get_endpoints_response
endpoints_fit t e header w h =
    response-encodable GetEndpoints _ ∙ both_are (response_header.encodable header) _ h (given_fit t e w)

-- ---- sessions

timeout_fits : (timeout : DoubleBits) → timeout.bits < 2 ^ 64 → IsTrue (double_bits.encodable timeout)
unfolding double_bits
timeout_fits timeout h = lt-ltb timeout.bits (256 ^ 8) (omega (arith, h))

signature_fits : IsTrue (signature_data.encodable null_signature)
unfolding signature_data
signature_fits = both_are (string.encodable None) _ no_text no_octets

pub session_fits : (n most : ℕ) (timeout : DoubleBits) (e : Endpoint) (header : ResponseHeader) → n < 2 ^ 32 → most < 2 ^ 32 → timeout.bits < 2 ^ 64
    → IsEndpointEncodable e
    → IsTrue (response_header.encodable header)
    → IsTrue (response.encodable (CreateSessionMessage (session_of header (session_id n) (session_token n) timeout (Some (description_of e ∷ [])) most)))
unfolding create_session_response
session_fits n most timeout e header small limit bits w h =
    response-encodable CreateSession _
    ∙ both_are (response_header.encodable header) _ h
    (both_are (node_id.encodable (session_id n)) _ (numeric_fits 1 n (lit< tt) small)
    (both_are (node_id.encodable (session_token n)) _ (numeric_fits 2 n (lit< tt) small)
    (both_are (double_bits.encodable timeout) _ (timeout_fits timeout bits)
    (both_are (byte_string.encodable None) _ no_octets
    (both_are (byte_string.encodable None) _ no_octets
    (both_are ((array endpoint_description).encodable (Some (description_of e ∷ []))) _
    (one_fits endpoint_description (description_of e) (description_fits e w))
    (both_are ((array signed_software_certificate).encodable None) _ (no_array signed_software_certificate)
    (both_are (signature_data.encodable null_signature) _ signature_fits (lt-ltb most (256 ^ 4) (omega (arith, limit)))))))))))

pub activation_fits : (header : ResponseHeader) → IsTrue (response_header.encodable header)
    → IsTrue (response.encodable (ActivateSessionMessage (activated_of header)))
unfolding activate_session_response
activation_fits header h =
    response-encodable ActivateSession _
    ∙ both_are (response_header.encodable header) _ h
    (both_are (byte_string.encodable None) _ no_octets
    (both_are ((array (flat status_code)).encodable None) _ (no_array (flat status_code)) (no_array diagnostic_format)))

-- ---- Read and Write

pub value_is : (d : DataValue) (x : DataValueData) → data_value_of d ≡ x → d ≡ value_from x
value_is d x h = by d.value refl ∙ ap value_from h
  where
    by : (v : Option VariantData) → d.value ≡ v → d ≡ value_from (value_within v (data_fields_of d))
    by None e = rw e
    by (Some v) e = rw e

pub values_fit : (m : ReadResponse) → IsTrue (read_response.encodable m) → IsTrue (response.encodable (ReadMessage m))
values_fit m h = response-encodable Read m ∙ h

pub statuses_fit : (m : WriteResponse) → IsTrue (write_response.encodable m) → IsTrue (response.encodable (WriteMessage m))
statuses_fit m h = response-encodable Write m ∙ h

-- a Read leaves the state, whether it is refused or not
pub kept_by : (reason : Option ℕ) (s : State) (moment : DateTime) (asking : RequestHeader) (given : Response) → s ≡ (unless reason s moment asking (s, given)).0
kept_by None s moment asking given = refl
kept_by (Some code) s moment asking given = refl
