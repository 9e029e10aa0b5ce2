-- The handling of replies.
use Rattle.std.specs.Prelude.{◌≡◌, ◌⊎◌, ◌||◌, ℕ, Bool, false, List, [], Option, Some, None, Result, Ok, Err}
use Rattle.ua_builtin.specs.Status.{is_bad}
use Rattle.ua_builtin.specs.declared.status_code.StatusCode.{StatusCode}
use Rattle.ua_client.specs.declared.fault.ClientFault.TheVariants.{UnknownResponse}
use Rattle.ua_client.specs.declared.reply.Reply.{Reply}
use Rattle.ua_client.specs.declared.reply.Reply.TheVariants.{Response as Responds, Aborted}
use Rattle.ua_services.specs.declared.response.Response.{Response}
use Rattle.ua_services.specs.declared.response.Response.TheVariants.{Read, Write}
use Rattle.ua_structures.specs.declared.discovery.EndpointDescription.{EndpointDescription}
use Rattle.ua_answers.specs.Replies.{AreEndpoints, endpoints_in, fault_in, has_bad}
use Rattle.ua_answers.specs.declared.style.EndpointStyle.{EndpointStyle}
use Rattle.ua_session.specs.declared.fault.QuestionFault.{QuestionFault}
use Rattle.ua_session.specs.declared.fault.QuestionFault.TheVariants.{Service, Connection, NoMemory, NoPolicy, Output}
use Rattle.ua_session.specs.Printed.{HasAdded, IsOutput}

-- ---- what a reply has

-- the code of a reply by which the service failed: a ServiceFault, or that the server aborted its
-- response
abbrev pub failure_in : Reply → Option StatusCode
failure_in (Responds m) = fault_in m
failure_in (Aborted code) = Some code

-- the list of endpoints in a reply, which may be null
abbrev pub endpoints_of : Reply → Option (Option (List EndpointDescription))
endpoints_of (Responds m) = endpoints_in m
endpoints_of (Aborted code) = None

-- the service failed by the response to a Read or a Write: its ServiceResult is bad (OPC 10000-4,
-- 7.33)
abbrev pub has_failed : Response → Bool
has_failed (Read m) = is_bad m.response_header.service_result
has_failed (Write m) = is_bad m.response_header.service_result
has_failed other = false

-- the response to a Read or a Write has a bad code: its own, or that of a result
abbrev pub is_bad_response : Response → Bool
is_bad_response response = has_bad response || has_failed response

-- ---- what is made of it

-- a reply as a response; a fault, and that the server aborted its response, are told
abbrev pub GivesResponse : Result Reply QuestionFault → Result Response QuestionFault → Type 0
GivesResponse (Ok (Responds m)) result = result ≡ Ok m
GivesResponse (Ok (Aborted code)) result = result ≡ Err (Service code)
GivesResponse (Err fault) result = result ≡ Err fault

-- why a reply is not printed: the service failed with this code, or it does not answer the
-- question, with this property; or an allocation failed
abbrev pub IsRefusedBy : Type 0 → Reply → QuestionFault → Type 0
IsRefusedBy IsUnknown reply (Service code) = failure_in reply ≡ Some code
IsRefusedBy IsUnknown reply (Connection UnknownResponse) = (failure_in reply ≡ None) × IsUnknown
IsRefusedBy IsUnknown reply (Connection other) = ⊥
IsRefusedBy IsUnknown reply NoPolicy = ⊥
IsRefusedBy IsUnknown reply (Output error) = ⊥
IsRefusedBy IsUnknown reply NoMemory = Unit {0}

-- a reply that only tells that the service is done; a fault, and that the service failed, are told
abbrev pub Expects : Result Reply QuestionFault → Result (Unit {0}) QuestionFault → Type 0
Expects (Ok reply) (Ok done) = failure_in reply ≡ None
Expects (Ok reply) (Err (Service code)) = failure_in reply ≡ Some code
Expects (Ok reply) (Err (Connection fault)) = ⊥
Expects (Ok reply) (Err NoPolicy) = ⊥
Expects (Ok reply) (Err (Output error)) = ⊥
Expects (Ok reply) (Err NoMemory) = ⊥
Expects (Err fault) result = result ≡ Err fault

-- why a reply was not printed: nothing was written, and it is no answer, for this reason; or the
-- writer failed at its lines, which have this property
abbrev pub IsUnprinted : {O : Type 0} → (List ℕ → Type 0) → Type 0 → Reply → O → O → QuestionFault → Type 0
IsUnprinted AreLines IsUnknown reply had have fault = ((have ≡ had) × IsRefusedBy IsUnknown reply fault)
    ⊎ (IsOutput fault × ((lines : List ℕ) × AreLines lines))

-- the lines of the endpoints in a reply are written, in this style, or why not is told
abbrev pub PrintsEndpoints : {O : Type 0} → (O → Option (List ℕ)) → EndpointStyle → O → O → Result Reply QuestionFault → Result (Unit {0}) QuestionFault
    → Type 0
PrintsEndpoints contents style had have (Ok reply) (Ok done) = HasAdded (AreEndpoints style (endpoints_of reply) []) (contents had) (contents have)
PrintsEndpoints contents style had have (Ok reply) (Err fault) = IsUnprinted (AreEndpoints style (endpoints_of reply) []) (endpoints_of reply ≡ None) reply had
    have fault
PrintsEndpoints contents style had have (Err fault) result = (have ≡ had) × (result ≡ Err fault)
