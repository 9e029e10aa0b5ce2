-- The names of messages, by the side that sent them: a client sends requests, a server responses.
use Rattle.std.specs.Prelude.{ℕ, Bool, true, false, ◌&&◌, cond, List, [], ◌++◌, Option, Some, None, Result, Ok, Err, codes}
use Rattle.ua_builtin.specs.Exact.{◌>>=◌}
use Rattle.ua_builtin.specs.NodeText.{node_text}
use Rattle.ua_builtin.specs.declared.node_id.NodeId.{NodeId}
use Rattle.ua_opening.specs.SecureChannel.{open_request}
use Rattle.ua_opening.specs.declared.secure_channel.OpenRequest.{OpenRequest}
use Rattle.ua_opening.specs.Message.{message, body_of, id_of_body, standard_number}
use Rattle.ua_opening.specs.Open.{answer_read}
use Rattle.ua_services.specs.Request.{request_kind_name, request_read, kind_alone}
use Rattle.ua_services.specs.Response.{response_kind_name, response_kind_alone, response_read}
use Rattle.ua_opening.specs.declared.open.OpenAnswer.{OpenAnswer}
use Rattle.ua_opening.specs.declared.open.OpenAnswer.TheVariants.{Open, Fault}
use Rattle.ua_services.specs.declared.request.RequestKind.{RequestKind}
use Rattle.ua_services.specs.declared.response.ResponseKind.{ResponseKind}
use Rattle.ua_services.specs.declared.fault.RequestFault.{RequestFault}
use Rattle.ua_services.specs.declared.fault.RequestFault.TheVariants as request_fault
use Rattle.ua_services.specs.declared.fault.ResponseFault.{ResponseFault}
use Rattle.ua_services.specs.declared.fault.ResponseFault.TheVariants as response_fault
use Rattle.ua_texts.specs.Names.{name_in, name_part}
use Rattle.ua_texts.specs.Shown.{escaped}
use Rattle.ua_pair.specs.Encodings.{encodings}
use Rattle.ua_fields.specs.declared.side.Side.{Side}
use Rattle.ua_fields.specs.declared.side.Side.TheVariants.{Client, Server}

-- ---- requests

-- the name of what was decoded as a request: its kind, or why there is none
abbrev pub request_name_of : Result RequestKind RequestFault → List ℕ
request_name_of (Ok kind) = request_kind_name kind
request_name_of (Err (request_fault.Unsupported handle)) = codes "unsupported"
request_name_of (Err (request_fault.Unreadable handle)) = codes "unreadable"
request_name_of (Err request_fault.OutOfMemory) = []

-- the name of a message that a client sent
abbrev pub request_name : List ℕ → List ℕ
request_name octets = request_name_of (kind_alone (request_read octets))

-- ---- responses

-- the name of what was decoded as a response: its kind, or why there is none
abbrev pub response_name_of : Result ResponseKind ResponseFault → List ℕ
response_name_of (Ok kind) = response_kind_name kind
response_name_of (Err response_fault.Unknown) = codes "unsupported"
response_name_of (Err response_fault.Unreadable) = codes "unreadable"
response_name_of (Err response_fault.OutOfMemory) = []

-- the name of a message that a server sent
abbrev pub response_name : List ℕ → List ℕ
response_name octets = response_name_of (response_kind_alone (response_read octets))

-- the name of a message of these bytes
abbrev pub message_name : Side → List ℕ → List ℕ
message_name Client octets = request_name octets
message_name Server octets = response_name octets

-- ---- messages of no known kind

-- whether what was decoded as a request begins with a NodeId of no known kind
abbrev pub is_unsupported_kind : Result RequestKind RequestFault → Bool
is_unsupported_kind (Ok kind) = false
is_unsupported_kind (Err (request_fault.Unsupported handle)) = true
is_unsupported_kind (Err (request_fault.Unreadable handle)) = false
is_unsupported_kind (Err request_fault.OutOfMemory) = false

-- whether a message that a client sent is of no known kind
abbrev pub is_unsupported_request : List ℕ → Bool
is_unsupported_request octets = is_unsupported_kind (kind_alone (request_read octets))

-- whether what was decoded as a response begins with a NodeId of no known kind
abbrev pub is_unknown_response : Result ResponseKind ResponseFault → Bool
is_unknown_response (Ok kind) = false
is_unknown_response (Err response_fault.Unknown) = true
is_unknown_response (Err response_fault.Unreadable) = false
is_unknown_response (Err response_fault.OutOfMemory) = false

-- whether a message that a server sent is of no known kind
abbrev pub is_unsupported_response : List ℕ → Bool
is_unsupported_response octets = is_unknown_response (response_kind_alone (response_read octets))

-- whether a message that this side sent is of no known kind
abbrev pub is_unsupported : Side → List ℕ → Bool
is_unsupported Client octets = is_unsupported_request octets
is_unsupported Server octets = is_unsupported_response octets

-- the name of the message whose encoding has this NodeId, if the table has it
abbrev pub name_of_encoding : NodeId → Option (List ℕ)
name_of_encoding id = standard_number id >>= name_in encodings

-- the NodeId of an encoding, and its standard name if it has one, each after a space:
-- ` i=527 BrowseRequest`
abbrev pub encoding_text : Option NodeId → List ℕ
encoding_text None = []
encoding_text (Some id) = codes " " ++ (escaped (node_text id) ++ name_part (name_of_encoding id))

-- the title of a message in its line: its name, and if names are wanted, the encoding of one of no
-- known kind
abbrev pub message_title : Bool → Side → List ℕ → List ℕ
message_title names side octets = message_name side octets ++ cond (names && is_unsupported side octets) (encoding_text (id_of_body octets)) []

-- ---- the bodies of OPN frames

-- the name of what was decoded as an OpenSecureChannel request
abbrev pub open_request_name : Option OpenRequest → List ℕ
open_request_name None = codes "unreadable"
open_request_name (Some m) = codes "OpenSecureChannelRequest"

-- the name of what was decoded as the response to one
abbrev pub open_answer_name : Option OpenAnswer → List ℕ
open_answer_name None = codes "unreadable"
open_answer_name (Some (Open m)) = codes "OpenSecureChannelResponse"
open_answer_name (Some (Fault m)) = codes "ServiceFault"

-- the name of the body of an OPN
abbrev pub opening_name : Side → List ℕ → List ℕ
opening_name Client octets = open_request_name (body_of (message 446 open_request) octets)
opening_name Server octets = open_answer_name (answer_read octets)
