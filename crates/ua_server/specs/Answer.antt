-- What a server answers to a request at a time, and the state that this leaves.
use Rattle.std.specs.Prelude.{ℕ, Option, Some, None}
use Rattle.ua_builtin.specs.Reasons.{first_reason}
use Rattle.ua_builtin.specs.Status.{of_code}
use Rattle.ua_builtin.specs.declared.date_time.DateTime.{DateTime}
use Rattle.ua_services.specs.declared.request.Request.{Request}
use Rattle.ua_services.specs.declared.request.Request.TheVariants.{GetEndpoints, CreateSession, ActivateSession, CloseSession, Read, Write}
use Rattle.ua_services.specs.declared.response.Response.{Response}
use Rattle.ua_services.specs.declared.response.Response.TheVariants.{ServiceFault}
use Rattle.ua_opening.specs.Plain.{service_fault_of}
use Rattle.ua_structures.specs.declared.attribute.ReadRequest.{ReadRequest}
use Rattle.ua_structures.specs.declared.attribute.WriteRequest.{WriteRequest}
use Rattle.ua_opening.specs.declared.header.RequestHeader.{RequestHeader}
use Rattle.ua_structures.specs.declared.session.ActivateSessionRequest.{ActivateSessionRequest}
use Rattle.ua_structures.specs.declared.session.CloseSessionRequest.{CloseSessionRequest}
use Rattle.ua_structures.specs.declared.session.CreateSessionRequest.{CreateSessionRequest}
use Rattle.ua_server.specs.Attributes.{read_reasons, values_given, write_reasons, with_written, statuses_given}
use Rattle.ua_server.specs.Sessions.{endpoints_given, create_reasons, session_given, activate_reasons}
use Rattle.ua_server.specs.Sessions.{with_activated, activation_given, close_reasons, close_given}
use Rattle.ua_server.specs.State.{State, begun, with_next_session}

-- the ServiceFault of this code under this RequestHandle
abbrev pub fault_of : ℕ → ℕ → DateTime → Response
fault_of handle code moment = ServiceFault (service_fault_of moment handle (of_code code))

-- a ServiceFault if there is a reason, which leaves the state unchanged; else what the service
-- leaves and answers
abbrev pub unless : Option ℕ → State → DateTime → RequestHeader → State × Response → State × Response
unless None s moment asking given = given
unless (Some code) s moment asking given = (s, fault_of asking.request_handle code moment)

-- ---- the services, each with its errors: the state that a request leaves, and the response to it

-- CreateSession (OPC 10000-4, 5.7.2)
abbrev pub answer_create_session : State → DateTime → CreateSessionRequest → State × Response
answer_create_session s moment m = unless (first_reason (create_reasons s)) s moment m.request_header (with_next_session s, session_given s moment m)

-- ActivateSession (OPC 10000-4, 5.7.3)
abbrev pub answer_activate_session : State → DateTime → ActivateSessionRequest → State × Response
answer_activate_session s moment m = unless (first_reason (activate_reasons s m)) s moment m.request_header (with_activated s, activation_given moment m)

-- CloseSession (OPC 10000-4, 5.7.4)
abbrev pub answer_close_session : State → DateTime → CloseSessionRequest → State × Response
answer_close_session s moment m = unless (first_reason (close_reasons s m)) s moment m.request_header (begun s, close_given moment m)

-- Read (OPC 10000-4, 5.11.2)
abbrev pub read_items : State → DateTime → ReadRequest → State × Response
read_items s moment m = unless (first_reason (read_reasons s m)) s moment m.request_header (s, values_given s moment m)

-- Write (OPC 10000-4, 5.11.4)
abbrev pub write_items : State → DateTime → WriteRequest → State × Response
write_items s moment m = unless (first_reason (write_reasons s m)) s moment m.request_header (with_written s moment m, statuses_given s moment m)

-- the header of a request under a session, whose AuthenticationToken tells which session it is (OPC
-- 10000-4, 5.7.1); none of a request that needs no session
abbrev pub session_header : Request → Option RequestHeader
session_header (GetEndpoints m) = None
session_header (CreateSession m) = None
session_header (ActivateSession m) = Some m.request_header
session_header (CloseSession m) = Some m.request_header
session_header (Read m) = Some m.request_header
session_header (Write m) = Some m.request_header

-- the state that a request leaves, and the response to it
abbrev pub answer : State → DateTime → Request → State × Response
answer s moment (GetEndpoints m) = (s, endpoints_given s moment m)
answer s moment (CreateSession m) = answer_create_session s moment m
answer s moment (ActivateSession m) = answer_activate_session s moment m
answer s moment (CloseSession m) = answer_close_session s moment m
answer s moment (Read m) = read_items s moment m
answer s moment (Write m) = write_items s moment m
