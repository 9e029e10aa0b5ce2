-- The reply to a message, whatever its body is (OPC 10000-4, 7.35; OPC 10000-6, 6.7.2).
use Rattle.std.specs.Prelude.{◌≡◌, ◌⊎◌, ℕ, length, List, Option, Result, Ok, Err}
use Rattle.ua_builtin.specs.declared.date_time.DateTime.{DateTime}
use Rattle.ua_nodes.specs.Within.{Passes}
use Rattle.ua_services.specs.Request.{request_read}
use Rattle.ua_services.specs.declared.fault.RequestFault.{RequestFault}
use Rattle.ua_services.specs.declared.fault.RequestFault.TheVariants.{Unsupported, Unreadable, OutOfMemory}
use Rattle.ua_services.specs.declared.request.Request.{Request}
use Rattle.ua_services.specs.declared.response.Response.{Response}
use Rattle.ua_server.specs.Answer.{fault_of, answer}
use Rattle.ua_server.specs.State.{State}
use Rattle.ua_server.specs.Status.{bad_decoding_error, bad_service_unsupported}

-- the ServiceFault that answers bytes that are no request, under their RequestHandle:
-- Bad_ServiceUnsupported if their NodeId announces none, else Bad_DecodingError; OutOfMemory does
-- not come from bytes
abbrev pub misread_answer : RequestFault → DateTime → Response
misread_answer (Unsupported handle) moment = fault_of handle bad_service_unsupported moment
misread_answer (Unreadable handle) moment = fault_of handle bad_decoding_error moment
misread_answer OutOfMemory moment = fault_of 0 bad_decoding_error moment

-- the state that is left, and the response, by the request that bytes are, or the error that tells
-- why they are none
abbrev pub answered_by : Result Request RequestFault → State → DateTime → State × Response
answered_by (Ok m) s moment = answer s moment m
answered_by (Err fault) s moment = (s, misread_answer fault moment)

-- the state that a message leaves, and the response to it
abbrev pub answered : State → DateTime → List ℕ → State × Response
answered s moment octets = answered_by (request_read octets) s moment

-- a body is the whole one, or it was aborted: it exceeds the limit, and so does the whole one
abbrev pub IsBodyWithin : Option ℕ → List ℕ → List ℕ → Type 0
IsBodyWithin most whole body = (body ≡ whole) ⊎ (Passes most (length body) × Passes most (length whole))
