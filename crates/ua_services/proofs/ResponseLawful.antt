-- Responses are lawful, and what their structures are read as can be written back.
use Rattle.std.specs.Prelude.{◌≡◌, Some}
use Rattle.std.proofs.Common.{refl}
use Rattle.ua_builtin.specs.Format.{IsLawful}
use Rattle.ua_structures.proofs.AttributeLawful.{lawful_read_response}
use Rattle.ua_structures.proofs.AttributeSound.{sound_write_response}
use Rattle.ua_structures.proofs.DiscoverySound.{sound_get_endpoints_response}
use Rattle.ua_opening.proofs.HeaderSound.{sound_service_fault}
use Rattle.ua_structures.proofs.SessionSound.{sound_create_session_response, sound_activate_session_response, sound_close_session_response}
use Rattle.ua_services.specs.Response.{response, responses, response_parts, ResponseStructure}
use Rattle.ua_services.specs.declared.response.Response.{Response}
use Rattle.ua_services.specs.declared.response.Response.TheVariants.{Read as ReadMessage}
use Rattle.ua_services.specs.declared.response.ResponseKind.{ResponseKind}
use Rattle.ua_services.specs.declared.response.ResponseKind.TheVariants as kind
use Rattle.ua_services.specs.declared.response.ResponseKind.TheVariants.{Read}
use Rattle.ua_opening.proofs.MessagesLawful.{Written, sound_but, IsKind, AreKinds, lawful_message_of}

response_back : (v : Response) → v ≡ responses.make (response_parts v).0 (response_parts v).1
response_back (ReadMessage m) = refl
response_back m = refl

response_forth : (k : ResponseKind) (m : ResponseStructure k) → response_parts (responses.make k m) ≡ (k, m)
response_forth Read m = refl
response_forth k m = refl

response_numbers : (k : ResponseKind) → responses.numbered (responses.number k) ≡ Some k
response_numbers Read = refl
response_numbers k = refl

-- of each kind but that of Read what was read can be written back
pub response_written : (k : ResponseKind) → Written (k ≡ Read → ⊥) (responses.format k)
response_written kind.GetEndpoints = sound_but sound_get_endpoints_response
response_written kind.CreateSession = sound_but sound_create_session_response
response_written kind.ActivateSession = sound_but sound_activate_session_response
response_written kind.CloseSession = sound_but sound_close_session_response
response_written kind.Read = record { lawful = lawful_read_response; back = λ other. absurd (other refl) }
response_written kind.Write = sound_but sound_write_response
response_written kind.ServiceFault = sound_but sound_service_fault

pub is_response : (k : ResponseKind) → IsKind responses k
is_response k = record { forth = response_forth k; numbers = response_numbers k; lawful = (response_written k).lawful }

pub are_responses : AreKinds responses
are_responses = record { back = response_back; each = is_response }

pub lawful_response : IsLawful response
unfolding response
lawful_response = lawful_message_of responses are_responses
