-- Requests are lawful, and what their structures are read as can be written back.
use Rattle.std.specs.Prelude.{◌≡◌, Some}
use Rattle.std.proofs.Common.{refl}
use Rattle.ua_builtin.specs.Format.{IsLawful}
use Rattle.ua_structures.proofs.AttributeLawful.{lawful_write_request}
use Rattle.ua_structures.proofs.AttributeSound.{sound_read_request}
use Rattle.ua_structures.proofs.DiscoverySound.{sound_get_endpoints_request}
use Rattle.ua_structures.proofs.SessionSound.{sound_create_session_request, sound_activate_session_request, sound_close_session_request}
use Rattle.ua_services.specs.Request.{request, requests, request_parts, RequestStructure}
use Rattle.ua_services.specs.declared.request.Request.{Request}
use Rattle.ua_services.specs.declared.request.Request.TheVariants.{Read as ReadMessage}
use Rattle.ua_services.specs.declared.request.RequestKind.{RequestKind}
use Rattle.ua_services.specs.declared.request.RequestKind.TheVariants as kind
use Rattle.ua_services.specs.declared.request.RequestKind.TheVariants.{Read, Write}
use Rattle.ua_opening.proofs.MessagesLawful.{Written, sound_but, IsKind, AreKinds, lawful_message_of}

request_back : (v : Request) → v ≡ requests.make (request_parts v).0 (request_parts v).1
request_back (ReadMessage m) = refl
request_back m = refl

request_forth : (k : RequestKind) (m : RequestStructure k) → request_parts (requests.make k m) ≡ (k, m)
request_forth Read m = refl
request_forth k m = refl

request_numbers : (k : RequestKind) → requests.numbered (requests.number k) ≡ Some k
request_numbers Read = refl
request_numbers k = refl

-- of each kind but Write what was read can be written back
pub request_written : (k : RequestKind) → Written (k ≡ Write → ⊥) (requests.format k)
request_written kind.GetEndpoints = sound_but sound_get_endpoints_request
request_written kind.CreateSession = sound_but sound_create_session_request
request_written kind.ActivateSession = sound_but sound_activate_session_request
request_written kind.CloseSession = sound_but sound_close_session_request
request_written kind.Read = sound_but sound_read_request
request_written kind.Write = record { lawful = lawful_write_request; back = λ other. absurd (other refl) }

pub is_request : (k : RequestKind) → IsKind requests k
is_request k = record { forth = request_forth k; numbers = request_numbers k; lawful = (request_written k).lawful }

pub are_requests : AreKinds requests
are_requests = record { back = request_back; each = is_request }

pub lawful_request : IsLawful request
unfolding request
lawful_request = lawful_message_of requests are_requests
