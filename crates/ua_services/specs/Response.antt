-- Responses: the kinds by the number of their encoding.
use Rattle.std.specs.Prelude.{◌≡◌, ℕ, List, [], ◌∷◌, Option, Some, None, Result, ◌⊎◌, codes, Ok, Err}
use Rattle.ua_builtin.specs.Exact.{◌>>=◌}
use Rattle.ua_builtin.specs.Format.{Format, most_levels}
use Rattle.ua_builtin.specs.declared.node_id.NodeId.{NodeId}
use Rattle.ua_structures.specs.Attribute.{read_response, write_response}
use Rattle.ua_structures.specs.Discovery.{get_endpoints_response}
use Rattle.ua_opening.specs.Header.{service_fault}
use Rattle.ua_structures.specs.Session.{create_session_response, activate_session_response, close_session_response}
use Rattle.ua_structures.specs.declared.discovery.GetEndpointsResponse.{GetEndpointsResponse}
use Rattle.ua_structures.specs.declared.session.CreateSessionResponse.{CreateSessionResponse}
use Rattle.ua_structures.specs.declared.session.ActivateSessionResponse.{ActivateSessionResponse}
use Rattle.ua_structures.specs.declared.session.CloseSessionResponse.{CloseSessionResponse}
use Rattle.ua_structures.specs.declared.attribute.ReadResponse.{ReadResponse}
use Rattle.ua_structures.specs.declared.attribute.WriteResponse.{WriteResponse}
use Rattle.ua_opening.specs.declared.header.ResponseHeader.{ResponseHeader}
use Rattle.ua_opening.specs.declared.header.ServiceFault.{ServiceFault}
use Rattle.ua_wire.specs.declared.fault.ReadFault.{ReadFault}
use Rattle.ua_wire.specs.declared.fault.ReadFault.TheVariants.{NoValue}
use Rattle.ua_opening.specs.Message.{Kind, Kinds, announced, message_of, with_number, IsNoBody, body_of, id_of_body, found_or, kind_at, if_last}
use Rattle.ua_services.specs.declared.request.RequestKind.{RequestKind}
use Rattle.ua_services.specs.declared.response.Response.{Response}
use Rattle.ua_services.specs.declared.response.Response.TheVariants as message
use Rattle.ua_services.specs.declared.response.ResponseKind.{ResponseKind}
use Rattle.ua_services.specs.declared.response.ResponseKind.TheVariants as kind
use Rattle.ua_services.specs.declared.fault.ResponseFault.{ResponseFault}
use Rattle.ua_services.specs.declared.fault.ResponseFault.TheVariants.{Unknown, Unreadable, OutOfMemory}

-- each kind of response (OPC 10000-6, A.3)
abbrev pub response_row : ResponseKind → Kind Response
response_row kind.GetEndpoints = record {
  name = codes "GetEndpointsResponse";
  number = 431;
  structure = GetEndpointsResponse;
  format = get_endpoints_response;
  make = message.GetEndpoints;
}
response_row kind.CreateSession = record {
  name = codes "CreateSessionResponse";
  number = 464;
  structure = CreateSessionResponse;
  format = create_session_response;
  make = message.CreateSession;
}
response_row kind.ActivateSession = record {
  name = codes "ActivateSessionResponse";
  number = 470;
  structure = ActivateSessionResponse;
  format = activate_session_response;
  make = message.ActivateSession;
}
response_row kind.CloseSession = record {
  name = codes "CloseSessionResponse";
  number = 476;
  structure = CloseSessionResponse;
  format = close_session_response;
  make = message.CloseSession;
}
response_row kind.Read = record { name = codes "ReadResponse"; number = 634; structure = ReadResponse; format = read_response; make = message.Read }
response_row kind.Write = record { name = codes "WriteResponse"; number = 676; structure = WriteResponse; format = write_response; make = message.Write }
response_row kind.ServiceFault = record {
  name = codes "ServiceFault";
  number = 397;
  structure = ServiceFault;
  format = service_fault;
  make = message.ServiceFault;
}

-- the kinds of response
abbrev pub response_kinds : List ResponseKind
response_kinds =
    kind.GetEndpoints
    ∷ kind.CreateSession
    ∷ kind.ActivateSession
    ∷ kind.CloseSession
    ∷ kind.Read
    ∷ kind.Write
    ∷ kind.ServiceFault
    ∷ []

-- the kind of response whose binary encoding has this number, if there is one (OPC 10000-6, A.3)
abbrev pub response_kind_numbered : ℕ → Option ResponseKind
response_kind_numbered n = with_number (λ k. (response_row k).number) n response_kinds

-- the name of a kind of response
abbrev pub response_kind_name : ResponseKind → List ℕ
response_kind_name k = (response_row k).name

-- the structure of a response of each kind
abbrev pub ResponseStructure : ResponseKind → Type 0
ResponseStructure k = (response_row k).structure

-- the kind and the structure of a response
abbrev pub response_parts : Response → (k : ResponseKind) × ResponseStructure k
response_parts (message.GetEndpoints m) = (kind.GetEndpoints, m)
response_parts (message.CreateSession m) = (kind.CreateSession, m)
response_parts (message.ActivateSession m) = (kind.ActivateSession, m)
response_parts (message.CloseSession m) = (kind.CloseSession, m)
response_parts (message.Read m) = (kind.Read, m)
response_parts (message.Write m) = (kind.Write, m)
response_parts (message.ServiceFault m) = (kind.ServiceFault, m)

-- the kinds of response, with the properties of each
abbrev pub responses : Kinds ResponseKind Response
responses = record {
  structure = ResponseStructure;
  format = λ k. (response_row k).format;
  number = λ k. (response_row k).number;
  numbered = response_kind_numbered;
  make = λ k. (response_row k).make;
  parts = response_parts;
}

-- the kind of a response
abbrev pub kind_of_response : Response → ResponseKind
kind_of_response m = (response_parts m).0

-- the header of a response of any kind
abbrev pub header_of_response : Response → ResponseHeader
header_of_response (message.GetEndpoints m) = m.response_header
header_of_response (message.CreateSession m) = m.response_header
header_of_response (message.ActivateSession m) = m.response_header
header_of_response (message.CloseSession m) = m.response_header
header_of_response (message.Read m) = m.response_header
header_of_response (message.Write m) = m.response_header
header_of_response (message.ServiceFault m) = m.response_header

-- the response that a NodeId announces
abbrev pub response_kind : NodeId → Option ResponseKind
response_kind = announced responses

-- the kind of response that a request expects
abbrev pub own_answer : RequestKind → ResponseKind
own_answer RequestKind.GetEndpoints = kind.GetEndpoints
own_answer RequestKind.CreateSession = kind.CreateSession
own_answer RequestKind.ActivateSession = kind.ActivateSession
own_answer RequestKind.CloseSession = kind.CloseSession
own_answer RequestKind.Read = kind.Read
own_answer RequestKind.Write = kind.Write

-- a response of this kind answers a request: it is of the expected kind, or a ServiceFault (OPC
-- 10000-4, 5.3)
abbrev pub Answers : ResponseKind → RequestKind → Type 0
Answers response request = (response ≡ own_answer request) ⊎ (response ≡ kind.ServiceFault)

-- the NodeId of the encoding, and after it the structure that it announces (OPC 10000-6, 5.2.9)
unfoldable pub response : Format Response
response = message_of responses

-- the response of this kind at the start of bytes after its NodeId, and the bytes after it
unfoldable pub response_of_kind : ResponseKind → ℕ → List ℕ → Option (Response × List ℕ)
response_of_kind k levels = kind_at responses levels (Some k)

-- ---- what a body is read as

-- the error for bytes that are no response, by the kind that their NodeId announces: Unknown if it
-- announces none
abbrev pub misread_response_kind : Option ResponseKind → ResponseFault
misread_response_kind None = Unknown
misread_response_kind (Some k) = Unreadable

-- the same by the NodeId at the start of the bytes, if there is one
abbrev pub misread_response_id : Option NodeId → ResponseFault
misread_response_id None = Unreadable
misread_response_id (Some id) = misread_response_kind (response_kind id)

-- the response whose body the bytes are; otherwise the error that tells why they are none
unfoldable pub response_read : List ℕ → Result Response ResponseFault
response_read octets = found_or (body_of response octets) (misread_response_id (id_of_body octets))

-- the response of this kind that bytes are after its NodeId; otherwise the error that tells that
-- they are none
abbrev pub read_as_response : (k : ResponseKind) → List ℕ → Result Response ResponseFault
read_as_response k octets = found_or (kind_at responses most_levels (Some k) octets >>= λ x. if_last x.0 x.1) Unreadable

-- of what was decoded, the kind of the response alone, or the error
abbrev pub response_kind_alone : Result Response ResponseFault → Result ResponseKind ResponseFault
response_kind_alone (Ok m) = Ok (kind_of_response m)
response_kind_alone (Err fault) = Err fault

-- the error of a response, if decoding it failed
abbrev pub unread_by : ReadFault → ResponseFault
unread_by NoValue = Unreadable
unread_by ReadFault.OutOfMemory = OutOfMemory

-- ---- why bytes are no response

-- the bytes begin with a NodeId that announces no response
abbrev pub AnnouncesNoResponse : List ℕ → Type 0
AnnouncesNoResponse octets = (id : NodeId) × (id_of_body octets ≡ Some id) × (response_kind id ≡ None)

-- the error for bytes that are no response, with the same cases as for requests
abbrev pub MisreadResponse : List ℕ → ResponseFault → Type 0
MisreadResponse octets Unknown = AnnouncesNoResponse octets × IsNoBody response octets
MisreadResponse octets Unreadable = (AnnouncesNoResponse octets → ⊥) × IsNoBody response octets
MisreadResponse octets OutOfMemory = Unit {0}
