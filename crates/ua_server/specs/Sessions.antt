-- The responses of the services of endpoints and sessions, and the states that they leave (OPC
-- 10000-4, 5.5 and 5.7).
use Rattle.std.specs.Prelude.{ℕ, ◌+◌, nat_eq, Bool, true, false, not, ◌&&◌, ◌||◌, List, [], ◌∷◌, ◌++◌, Option, Some, None, is_none}
use Rattle.ua_builtin.specs.Status.{of_code}
use Rattle.ua_builtin.specs.declared.date_time.DateTime.{DateTime}
use Rattle.ua_builtin.specs.declared.extension_object.ExtensionBody.{ExtensionBody}
use Rattle.ua_builtin.specs.declared.extension_object.ExtensionBody.TheVariants.{Absent, ByteString, Xml}
use Rattle.ua_builtin.specs.declared.extension_object.ExtensionObject.{ExtensionObject}
use Rattle.ua_opening.specs.Message.{body_of, standard_number}
use Rattle.ua_services.specs.declared.response.Response.{Response}
use Rattle.ua_services.specs.declared.response.Response.TheVariants.{GetEndpoints, CreateSession, ActivateSession, CloseSession}
use Rattle.ua_opening.specs.Plain.{response_header_of}
use Rattle.ua_structures.specs.Plain.{session_of, activated_of}
use Rattle.ua_structures.specs.Session.{anonymous_identity_token}
use Rattle.ua_structures.specs.declared.discovery.EndpointDescription.{EndpointDescription}
use Rattle.ua_structures.specs.declared.discovery.GetEndpointsRequest.{GetEndpointsRequest}
use Rattle.ua_opening.specs.declared.header.RequestHeader.{RequestHeader}
use Rattle.ua_opening.specs.declared.header.ResponseHeader.{ResponseHeader}
use Rattle.ua_structures.specs.declared.session.ActivateSessionRequest.{ActivateSessionRequest}
use Rattle.ua_structures.specs.declared.session.CloseSessionRequest.{CloseSessionRequest}
use Rattle.ua_structures.specs.declared.session.CreateSessionRequest.{CreateSessionRequest}
use Rattle.ua_server.specs.Endpoint.{description_of, are_served}
use Rattle.ua_server.specs.State.{State, session_id, session_token, is_own, is_activated, activated}
use Rattle.ua_server.specs.Status.{bad_identity_token_rejected, bad_session_id_invalid, bad_session_not_activated, bad_too_many_sessions}

-- the header of a good response
abbrev pub good_header : DateTime → RequestHeader → ResponseHeader
good_header moment asking = response_header_of moment asking.request_handle (of_code 0)

-- ---- requests under a session (OPC 10000-4, 5.7.1)

-- why a request under a session is rejected for its token: these reasons come before any other
abbrev pub token_reasons : State → RequestHeader → List (ℕ × Bool)
token_reasons s asking = (bad_session_id_invalid, not (is_own asking.authentication_token s.session)) ∷ []

-- the same for a request that needs an activated session
abbrev pub session_reasons : State → RequestHeader → List (ℕ × Bool)
session_reasons s asking = token_reasons s asking ++ ((bad_session_not_activated, not (is_activated s.session)) ∷ [])

-- ---- GetEndpoints (OPC 10000-4, 5.5.4)

-- the one endpoint, or none if other profiles are requested
abbrev pub endpoints_for : Bool → EndpointDescription → List EndpointDescription
endpoints_for true e = e ∷ []
endpoints_for false e = []

abbrev pub endpoints_given : State → DateTime → GetEndpointsRequest → Response
endpoints_given s moment m = GetEndpoints (record {
  response_header = good_header moment m.request_header;
  endpoints = Some (endpoints_for (are_served m.profile_uris) (description_of s.endpoint));
})

-- ---- CreateSession (OPC 10000-4, 5.7.2)

-- the most sessions that are made
abbrev pub most_sessions : ℕ
most_sessions = 4294967295

-- why no session is made: there is one, or the most sessions were made
abbrev pub create_reasons : State → List (ℕ × Bool)
create_reasons s = (bad_too_many_sessions, not (is_none s.session) || nat_eq s.made most_sessions) ∷ []

-- the next session, with the requested timeout, the one endpoint, and the most bytes of a request
abbrev pub session_given : State → DateTime → CreateSessionRequest → Response
session_given s moment m =
    CreateSession (session_of (good_header moment m.request_header) (session_id (s.made + 1)) (session_token (s.made + 1)) m.requested_session_timeout
    (Some (description_of s.endpoint ∷ [])) s.endpoint.message_limit)

-- ---- ActivateSession (OPC 10000-4, 5.7.3)

-- bytes that are an AnonymousIdentityToken, and nothing after it
abbrev pub is_token : Option (List ℕ) → Bool
is_token None = false
is_token (Some octets) = not (is_none (body_of anonymous_identity_token octets))

-- no identity, by the number of the type: i=0 without a body, or i=321 and an
-- AnonymousIdentityToken (OPC 10000-4, 7.41.3)
abbrev pub is_anonymous_by : Option ℕ → ExtensionBody → Bool
is_anonymous_by None body = false
is_anonymous_by (Some n) Absent = nat_eq n 0
is_anonymous_by (Some n) (ByteString octets) = nat_eq n 321 && is_token octets
is_anonymous_by (Some n) (Xml text) = false

abbrev pub is_anonymous_token : ExtensionObject → Bool
is_anonymous_token object = is_anonymous_by (standard_number object.type_id) object.body

-- why a session is not activated, in the order in which it is judged: for the token, and for an
-- identity that is neither none nor anonymous
abbrev pub activate_reasons : State → ActivateSessionRequest → List (ℕ × Bool)
activate_reasons s m = token_reasons s m.request_header ++ ((bad_identity_token_rejected, not (is_anonymous_token m.user_identity_token)) ∷ [])

-- the state with its session activated
abbrev pub with_activated : State → State
with_activated s = record { nodes = s.nodes; endpoint = s.endpoint; memory_limit = s.memory_limit; made = s.made; session = activated s.session }

abbrev pub activation_given : DateTime → ActivateSessionRequest → Response
activation_given moment m = ActivateSession (activated_of (good_header moment m.request_header))

-- ---- CloseSession (OPC 10000-4, 5.7.4)

-- why a session is not closed: for the token alone
abbrev pub close_reasons : State → CloseSessionRequest → List (ℕ × Bool)
close_reasons s m = token_reasons s m.request_header

abbrev pub close_given : DateTime → CloseSessionRequest → Response
close_given moment m = CloseSession (record { response_header = good_header moment m.request_header })
