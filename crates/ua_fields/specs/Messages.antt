-- The fields of messages: of each kind of request and response, and of the messages of the secure
-- channel.
use Rattle.std.specs.Prelude.{ℕ, Bool, List, [], codes}
use Rattle.ua_opening.specs.declared.header.ServiceFault.{ServiceFault as ServiceFaultMessage}
use Rattle.ua_opening.specs.declared.open.OpenAnswer.{OpenAnswer}
use Rattle.ua_opening.specs.declared.open.OpenAnswer.TheVariants.{Open, Fault}
use Rattle.ua_services.specs.declared.request.Request.{Request}
use Rattle.ua_services.specs.declared.request.Request.TheVariants.{GetEndpoints, CreateSession, ActivateSession, CloseSession, Read, Write}
use Rattle.ua_services.specs.declared.response.Response.{Response}
use Rattle.ua_services.specs.declared.response.Response.TheVariants.{GetEndpoints as GetEndpointsAnswer, CreateSession as CreateSessionAnswer}
use Rattle.ua_services.specs.declared.response.Response.TheVariants.{ActivateSession as ActivateSessionAnswer, CloseSession as CloseSessionAnswer}
use Rattle.ua_services.specs.declared.response.Response.TheVariants.{Read as ReadAnswer, Write as WriteAnswer, ServiceFault}
use Rattle.ua_opening.specs.declared.secure_channel.CloseRequest.{CloseRequest}
use Rattle.ua_opening.specs.declared.secure_channel.OpenRequest.{OpenRequest}
use Rattle.ua_opening.specs.declared.secure_channel.OpenResponse.{OpenResponse}
use Rattle.ua_fields.specs.declared.style.FieldStyle.{FieldStyle}
use Rattle.ua_fields.specs.Tree.{IsBehind, Tree, structure, lines}
use Rattle.ua_fields.specs.Header.{service_fault_entries}
use Rattle.ua_fields.specs.Attribute.{read_request_entries, read_response_entries, write_request_entries, write_response_entries}
use Rattle.ua_fields.specs.Discovery.{get_endpoints_request_entries, get_endpoints_response_entries}
use Rattle.ua_fields.specs.Session.{create_session_request_entries, create_session_response_entries, activate_session_request_entries}
use Rattle.ua_fields.specs.Session.{activate_session_response_entries, close_session_request_entries, close_session_response_entries}
use Rattle.ua_fields.specs.SecureChannel.{open_request_entries, close_request_entries}
use Rattle.ua_fields.specs.SecurityToken.{open_response_entries}

-- ---- messages as trees

-- a request, by its kind
abbrev pub request_tree : Request → Tree
request_tree (GetEndpoints m) = structure (get_endpoints_request_entries m)
request_tree (CreateSession m) = structure (create_session_request_entries m)
request_tree (ActivateSession m) = structure (activate_session_request_entries m)
request_tree (CloseSession m) = structure (close_session_request_entries m)
request_tree (Read m) = structure (read_request_entries m)
request_tree (Write m) = structure (write_request_entries m)

-- a response, by its kind
abbrev pub response_tree : Response → Tree
response_tree (GetEndpointsAnswer m) = structure (get_endpoints_response_entries m)
response_tree (CreateSessionAnswer m) = structure (create_session_response_entries m)
response_tree (ActivateSessionAnswer m) = structure (activate_session_response_entries m)
response_tree (CloseSessionAnswer m) = structure (close_session_response_entries m)
response_tree (ReadAnswer m) = structure (read_response_entries m)
response_tree (WriteAnswer m) = structure (write_response_entries m)
response_tree (ServiceFault m) = structure (service_fault_entries m)

-- the request of OpenSecureChannel
abbrev pub open_request_tree : OpenRequest → Tree
open_request_tree m = structure (open_request_entries m)

-- the response of OpenSecureChannel
abbrev pub open_response_tree : OpenResponse → Tree
open_response_tree m = structure (open_response_entries m)

-- the request of CloseSecureChannel
abbrev pub close_request_tree : CloseRequest → Tree
close_request_tree m = structure (close_request_entries m)

-- the response to an OpenSecureChannel request: a response, or a fault
abbrev pub open_answer_tree : OpenAnswer → Tree
open_answer_tree (Open m) = open_response_tree m
open_answer_tree (Fault m) = structure (service_fault_entries m)

-- a ServiceFault
abbrev pub service_fault_tree : ServiceFaultMessage → Tree
service_fault_tree m = structure (service_fault_entries m)

-- ---- their lines

-- the lines of a message, with or without the names of StatusCodes: its fields are indented by two
-- spaces
abbrev pub message_lines : Bool → Tree → List ℕ
message_lines names tree = lines names (codes "  ") [] tree

-- a text has the lines of a message in this style
abbrev pub AreMessageLines : FieldStyle → Tree → List ℕ → Type 0
AreMessageLines style tree text = IsBehind style (codes "  ") [] [] tree text

-- the lines of a request
abbrev pub request_fields : Bool → Request → List ℕ
request_fields names m = message_lines names (request_tree m)

-- the lines of a response
abbrev pub response_fields : Bool → Response → List ℕ
response_fields names m = message_lines names (response_tree m)

-- the lines of a request of OpenSecureChannel
abbrev pub open_request_fields : Bool → OpenRequest → List ℕ
open_request_fields names m = message_lines names (open_request_tree m)

-- the lines of a request of CloseSecureChannel
abbrev pub close_request_fields : Bool → CloseRequest → List ℕ
close_request_fields names m = message_lines names (close_request_tree m)

-- the lines of a ServiceFault
abbrev pub service_fault_fields : Bool → ServiceFaultMessage → List ℕ
service_fault_fields names m = message_lines names (service_fault_tree m)

-- the lines of a response to an OpenSecureChannel request
abbrev pub open_answer_fields : Bool → OpenAnswer → List ℕ
open_answer_fields names m = message_lines names (open_answer_tree m)
