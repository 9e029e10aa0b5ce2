-- Requests: the kinds by the number of their encoding.
use Rattle.std.specs.Prelude.{◌≡◌, ℕ, List, [], ◌∷◌, Bool, Option, Some, None, Result, Ok, Err, codes}
use Rattle.ua_builtin.specs.Exact.{◌>>=◌}
use Rattle.ua_builtin.specs.Format.{Format, most_levels}
use Rattle.ua_builtin.specs.declared.node_id.NodeId.{NodeId}
use Rattle.ua_structures.specs.Attribute.{read_request, write_request}
use Rattle.ua_structures.specs.Discovery.{get_endpoints_request}
use Rattle.ua_structures.specs.Session.{create_session_request, activate_session_request, close_session_request}
use Rattle.ua_structures.specs.Thin.{thinned_request}
use Rattle.ua_structures.specs.declared.discovery.GetEndpointsRequest.{GetEndpointsRequest}
use Rattle.ua_structures.specs.declared.session.CreateSessionRequest.{CreateSessionRequest}
use Rattle.ua_structures.specs.declared.session.ActivateSessionRequest.{ActivateSessionRequest}
use Rattle.ua_structures.specs.declared.session.CloseSessionRequest.{CloseSessionRequest}
use Rattle.ua_structures.specs.declared.attribute.ReadRequest.{ReadRequest}
use Rattle.ua_structures.specs.declared.attribute.WriteRequest.{WriteRequest}
use Rattle.ua_opening.specs.declared.header.RequestHeader.{RequestHeader}
use Rattle.ua_structures.specs.declared.thin.ValueType.{ValueType}
use Rattle.ua_wire.specs.declared.fault.ReadFault.{ReadFault}
use Rattle.ua_wire.specs.declared.fault.ReadFault.TheVariants.{NoValue}
use Rattle.ua_opening.specs.Message.{Kind, Kinds, announced, kind_at, message_of, with_number, IsNoBody}
use Rattle.ua_opening.specs.Message.{body_of, if_last, id_of_body, handle_of, handle_behind, found_or}
use Rattle.ua_services.specs.declared.request.Request.{Request}
use Rattle.ua_services.specs.declared.request.Request.TheVariants as message
use Rattle.ua_services.specs.declared.request.RequestKind.{RequestKind}
use Rattle.ua_services.specs.declared.request.RequestKind.TheVariants as kind
use Rattle.ua_services.specs.declared.fault.RequestFault.{RequestFault}
use Rattle.ua_services.specs.declared.fault.RequestFault.TheVariants.{Unsupported, Unreadable, OutOfMemory}

-- ---- the kinds

-- each kind of request (OPC 10000-6, A.3)
abbrev pub request_row : RequestKind → Kind Request
request_row kind.GetEndpoints = record {
  name = codes "GetEndpointsRequest";
  number = 428;
  structure = GetEndpointsRequest;
  format = get_endpoints_request;
  make = message.GetEndpoints;
}
request_row kind.CreateSession = record {
  name = codes "CreateSessionRequest";
  number = 461;
  structure = CreateSessionRequest;
  format = create_session_request;
  make = message.CreateSession;
}
request_row kind.ActivateSession = record {
  name = codes "ActivateSessionRequest";
  number = 467;
  structure = ActivateSessionRequest;
  format = activate_session_request;
  make = message.ActivateSession;
}
request_row kind.CloseSession = record {
  name = codes "CloseSessionRequest";
  number = 473;
  structure = CloseSessionRequest;
  format = close_session_request;
  make = message.CloseSession;
}
request_row kind.Read = record { name = codes "ReadRequest"; number = 631; structure = ReadRequest; format = read_request; make = message.Read }
request_row kind.Write = record { name = codes "WriteRequest"; number = 673; structure = WriteRequest; format = write_request; make = message.Write }

-- the kinds of request
abbrev pub request_kinds : List RequestKind
request_kinds =
    kind.GetEndpoints
    ∷ kind.CreateSession
    ∷ kind.ActivateSession
    ∷ kind.CloseSession
    ∷ kind.Read
    ∷ kind.Write
    ∷ []

-- the kind of request whose binary encoding has this number, if there is one (OPC 10000-6, A.3)
abbrev pub request_kind_numbered : ℕ → Option RequestKind
request_kind_numbered n = with_number (λ k. (request_row k).number) n request_kinds

-- the name of a kind of request
abbrev pub request_kind_name : RequestKind → List ℕ
request_kind_name k = (request_row k).name

-- the structure of a request of each kind
abbrev pub RequestStructure : RequestKind → Type 0
RequestStructure k = (request_row k).structure

-- the kind and the structure of a request
abbrev pub request_parts : Request → (k : RequestKind) × RequestStructure k
request_parts (message.GetEndpoints m) = (kind.GetEndpoints, m)
request_parts (message.CreateSession m) = (kind.CreateSession, m)
request_parts (message.ActivateSession m) = (kind.ActivateSession, m)
request_parts (message.CloseSession m) = (kind.CloseSession, m)
request_parts (message.Read m) = (kind.Read, m)
request_parts (message.Write m) = (kind.Write, m)

-- the kinds of request, with the properties of each
abbrev pub requests : Kinds RequestKind Request
requests = record {
  structure = RequestStructure;
  format = λ k. (request_row k).format;
  number = λ k. (request_row k).number;
  numbered = request_kind_numbered;
  make = λ k. (request_row k).make;
  parts = request_parts;
}

-- the kind of a request
abbrev pub kind_of_request : Request → RequestKind
kind_of_request m = (request_parts m).0

-- the header of a request of any kind
abbrev pub header_of_request : Request → RequestHeader
header_of_request (message.GetEndpoints m) = m.request_header
header_of_request (message.CreateSession m) = m.request_header
header_of_request (message.ActivateSession m) = m.request_header
header_of_request (message.CloseSession m) = m.request_header
header_of_request (message.Read m) = m.request_header
header_of_request (message.Write m) = m.request_header

-- the request that a NodeId announces
abbrev pub request_kind : NodeId → Option RequestKind
request_kind = announced requests

-- the NodeId of the encoding, and after it the structure that it announces (OPC 10000-6, 5.2.9)
unfoldable pub request : Format Request
request = message_of requests

-- the request of this kind at the start of bytes after its NodeId, and the bytes after it
unfoldable pub request_of_kind : RequestKind → ℕ → List ℕ → Option (Request × List ℕ)
request_of_kind k levels = kind_at requests levels (Some k)

-- ---- what a body is read as

-- the error for bytes that are no request, by the kind that their NodeId announces: Unsupported if
-- it announces none
abbrev pub misread_request_kind : ℕ → Option RequestKind → RequestFault
misread_request_kind handle None = Unsupported handle
misread_request_kind handle (Some k) = Unreadable handle

-- the same by the NodeId at the start of the bytes, if there is one
abbrev pub misread_request_id : ℕ → Option NodeId → RequestFault
misread_request_id handle None = Unreadable handle
misread_request_id handle (Some id) = misread_request_kind handle (request_kind id)

-- the request whose body the bytes are; otherwise the error that tells why they are none, with
-- their RequestHandle
unfoldable pub request_read : List ℕ → Result Request RequestFault
request_read octets = found_or (body_of request octets) (misread_request_id (handle_of octets) (id_of_body octets))

-- of what was decoded, the kind of the request alone, or the error
abbrev pub kind_alone : Result Request RequestFault → Result RequestKind RequestFault
kind_alone (Ok m) = Ok (kind_of_request m)
kind_alone (Err fault) = Err fault

-- ---- why bytes are no request

-- the bytes begin with a NodeId that announces no request
abbrev pub AnnouncesNoRequest : List ℕ → Type 0
AnnouncesNoRequest octets = (id : NodeId) × (id_of_body octets ≡ Some id) × (request_kind id ≡ None)

-- the error for bytes that are no request: they begin with a NodeId that announces none, or with
-- one that announces a request that does not follow, or with no NodeId; the number is their
-- RequestHandle
abbrev pub MisreadRequest : List ℕ → RequestFault → Type 0
MisreadRequest octets (Unsupported handle) = AnnouncesNoRequest octets × IsNoBody request octets × (handle ≡ handle_of octets)
MisreadRequest octets (Unreadable handle) = (AnnouncesNoRequest octets → ⊥) × IsNoBody request octets × (handle ≡ handle_of octets)
MisreadRequest octets OutOfMemory = Unit {0}

-- ---- after the NodeId

-- the error of a request with this handle, if decoding it failed
abbrev pub unread_with : ℕ → ReadFault → RequestFault
unread_with handle NoValue = Unreadable handle
unread_with handle ReadFault.OutOfMemory = OutOfMemory

-- the request of this kind that bytes are after its NodeId; otherwise the error that tells that
-- they are none
abbrev pub read_as_request : (k : RequestKind) → List ℕ → Result Request RequestFault
read_as_request k octets = found_or (kind_at requests most_levels (Some k) octets >>= λ x. if_last x.0 x.1) (Unreadable (handle_behind octets))

-- ---- what is kept of a request

-- the items of a Write without the values that their nodes could not take; all of another request
-- (OPC 10000-4, 5.11.4)
abbrev pub thin_request : (NodeId → ValueType → Bool) → Request → Request
thin_request takes (message.Write m) = message.Write (thinned_request takes m)
thin_request takes m = m

-- what is kept of what was decoded, or the error
abbrev pub thin_read : (NodeId → ValueType → Bool) → Result Request RequestFault → Result Request RequestFault
thin_read takes (Ok m) = Ok (thin_request takes m)
thin_read takes (Err fault) = Err fault
