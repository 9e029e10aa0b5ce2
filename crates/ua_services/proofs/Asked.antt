-- The requests of the program can be written.
use Rattle.std.specs.Prelude.{◌≡◌, ◌<◌, ◌^◌, ℕ, Bool, IsFalse, IsTrue, true, false, List, Option, None}
use Rattle.std.proofs.Common.{refl, ◌∙◌}
use Rattle.std.proofs.lemmas.Bool.{lt-ltb}
use Rattle.ua_builtin.specs.Counted.{text, counted, is_text}
use Rattle.ua_builtin.specs.ExtensionObject.{extension_object}
use Rattle.ua_builtin.specs.NodeId.{node_id}
use Rattle.ua_builtin.specs.QualifiedName.{qualified_name}
use Rattle.ua_builtin.specs.declared.date_time.DateTime.{DateTime}
use Rattle.ua_builtin.specs.declared.extension_object.ExtensionObject.{ExtensionObject}
use Rattle.ua_builtin.specs.declared.node_id.NodeId.{NodeId}
use Rattle.ua_services.proofs.Words.{and_false, both_are, first_false, too_long}
use Rattle.ua_wire.specs.Boolean.{boolean}
use Rattle.ua_services.proofs.ByKind.{request-encodable}
use Rattle.ua_services.specs.Request.{request}
use Rattle.ua_services.specs.declared.request.Request.TheVariants.{GetEndpoints as GetEndpointsMessage, CreateSession as CreateSessionMessage}
use Rattle.ua_services.specs.declared.request.Request.TheVariants.{ActivateSession as ActivateSessionMessage, CloseSession as CloseSessionMessage}
use Rattle.ua_services.specs.declared.request.Request.TheVariants.{Read as ReadMessage, Write as WriteMessage}
use Rattle.ua_services.specs.declared.request.RequestKind.TheVariants.{GetEndpoints, CreateSession, ActivateSession, CloseSession, Read, Write}
use Rattle.ua_opening.specs.Array.{array}
use Rattle.ua_structures.specs.Attribute.{read_request, read_value_id, write_request}
use Rattle.ua_structures.specs.Discovery.{get_endpoints_request}
use Rattle.ua_opening.specs.Field.{string, uint32}
use Rattle.ua_opening.specs.Header.{request_header}
use Rattle.ua_opening.specs.Plain.{request_header_of}
use Rattle.ua_structures.specs.Plain.{activate_session_of, null_signature}
use Rattle.ua_structures.specs.Session.{create_session_request, activate_session_request, close_session_request, signature_data, signed_software_certificate}
use Rattle.ua_opening.specs.declared.header.RequestHeader.{RequestHeader}
use Rattle.ua_structures.specs.declared.attribute.ReadRequest.{ReadRequest}
use Rattle.ua_structures.specs.declared.attribute.WriteRequest.{WriteRequest}
use Rattle.ua_structures.specs.declared.discovery.GetEndpointsRequest.{GetEndpointsRequest}
use Rattle.ua_structures.specs.declared.session.ActivateSessionRequest.{ActivateSessionRequest}
use Rattle.ua_structures.specs.declared.session.CloseSessionRequest.{CloseSessionRequest}
use Rattle.ua_structures.specs.declared.session.CreateSessionRequest.{CreateSessionRequest}
use Rattle.ua_services.specs.SessionRequests.{activate_session_as, anonymous_identity, attribute_of_node}

pub get_endpoints_fits : (m : GetEndpointsRequest) → IsTrue (get_endpoints_request.encodable m) → IsTrue (request.encodable (GetEndpointsMessage m))
get_endpoints_fits m h = request-encodable GetEndpoints m ∙ h

pub create_session_fits : (m : CreateSessionRequest) → IsTrue (create_session_request.encodable m) → IsTrue (request.encodable (CreateSessionMessage m))
create_session_fits m h = request-encodable CreateSession m ∙ h

pub activate_session_fits : (m : ActivateSessionRequest) → IsTrue (activate_session_request.encodable m) → IsTrue (request.encodable (ActivateSessionMessage m))
activate_session_fits m h = request-encodable ActivateSession m ∙ h

pub close_session_fits : (m : CloseSessionRequest) → IsTrue (close_session_request.encodable m) → IsTrue (request.encodable (CloseSessionMessage m))
close_session_fits m h = request-encodable CloseSession m ∙ h

pub read_fits : (m : ReadRequest) → IsTrue (read_request.encodable m) → IsTrue (request.encodable (ReadMessage m))
read_fits m h = request-encodable Read m ∙ h

pub write_fits : (m : WriteRequest) → IsTrue (write_request.encodable m) → IsTrue (request.encodable (WriteMessage m))
write_fits m h = request-encodable Write m ∙ h

-- ---- what requests are made of

pub closing_fits : (header : RequestHeader) → IsTrue (request_header.encodable header)
    → IsTrue (request.encodable (CloseSessionMessage (record { request_header = header; delete_subscriptions = false })))
unfolding close_session_request boolean
closing_fits header h = close_session_fits (record { request_header = header; delete_subscriptions = false })
    (both_are (request_header.encodable header) _ h refl)

no_name_fits : IsTrue (qualified_name.encodable (record { namespace = 0; name = None }))
unfolding qualified_name text counted
no_name_fits = refl

pub attribute_fits : (node : NodeId) (attribute : ℕ) (range : Option (List ℕ)) → attribute < 2 ^ 32 → IsTrue (node_id.encodable node)
    → IsTrue (string.encodable range)
    → IsTrue (read_value_id.encodable (attribute_of_node node attribute range))
unfolding read_value_id
attribute_fits node attribute range small h r =
    both_are (node_id.encodable node) _ h
    (both_are (uint32.encodable attribute) _ (lt-ltb attribute (2 ^ 32) small) (both_are (string.encodable range) _ r no_name_fits))

-- without an identity that can be written there is no request that can
unidentified : (header : RequestHeader) (identity : ExtensionObject) → IsFalse (extension_object.encodable identity)
    → IsFalse (request.encodable (ActivateSessionMessage (activate_session_of header identity)))
unfolding activate_session_request
unidentified header identity unfit =
    request-encodable ActivateSession (activate_session_of header identity)
    ∙ and_false (request_header.encodable header) _
    (and_false (signature_data.encodable null_signature) _ (and_false ((array signed_software_certificate).encodable None) _
    (and_false ((array string).encodable None) _ (first_false (extension_object.encodable identity) _ unfit))))

pub unnamed : (policy_id : Option (List ℕ)) (token : NodeId) (moment : DateTime) (handle : ℕ) → IsTrue (is_text policy_id)
    → IsFalse (string.encodable policy_id)
    → IsFalse (request.encodable (activate_session_as policy_id token moment handle))
unnamed policy_id token moment handle utf8 unfit = unidentified (request_header_of token moment handle) (anonymous_identity policy_id)
    (too_long policy_id utf8 unfit)
