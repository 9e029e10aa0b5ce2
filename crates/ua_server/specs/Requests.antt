-- The requests that a server answers, as it tells them to a watcher: the contents of each, and the
-- code of its response.
use Rattle.std.specs.Prelude.{ℕ, List, [], ◌∷◌, length, Option, Some, None, Result, Ok, Err}
use Rattle.ua_builtin.specs.Exact.{◌>>=◌}
use Rattle.ua_builtin.specs.Status.{of_code}
use Rattle.ua_builtin.specs.declared.date_time.DateTime.{DateTime}
use Rattle.ua_builtin.specs.declared.status_code.StatusCode.{StatusCode}
use Rattle.ua_chunk.specs.Cutting.{cut_refusal}
use Rattle.ua_chunk.specs.declared.fault.CutFault.{CutFault}
use Rattle.ua_chunk.specs.declared.lane.Lane.{Lane}
use Rattle.ua_channel.specs.ServerTold.{Told, Agreed, Opened, Asked, GaveUp, Closed}
use Rattle.ua_opening.specs.Message.{id_of_body, standard_number}
use Rattle.ua_services.specs.Request.{kind_of_request, request_read}
use Rattle.ua_services.specs.Response.{header_of_response, response}
use Rattle.ua_services.specs.declared.fault.RequestFault.{RequestFault}
use Rattle.ua_services.specs.declared.request.Request.{Request}
use Rattle.ua_services.specs.declared.request.Request.TheVariants.{Read, Write}
use Rattle.ua_services.specs.declared.request.RequestKind.{RequestKind}
use Rattle.ua_services.specs.declared.response.Response.{Response}
use Rattle.ua_server.specs.Attributes.{items_of}
use Rattle.ua_server.specs.Reply.{answered}
use Rattle.ua_server.specs.Said.{Course, start, first_time, lane_at, say}
use Rattle.ua_server.specs.State.{State}
use Rattle.ua_server.specs.Status.{bad_response_too_large}
use Rattle.ua_server.specs.declared.watch.AnsweredRequest.{AnsweredRequest}

-- ---- one request

-- the number of items of a request: those of its array, if its service is one with items, else none
abbrev pub items_asked : Request → ℕ
items_asked (Read m) = length (items_of m.nodes_to_read)
items_asked (Write m) = length (items_of m.nodes_to_write)
items_asked m = 0

-- the kind of what bytes are decoded as, if they are a request
abbrev pub kind_asked : Result Request RequestFault → Option RequestKind
kind_asked (Ok m) = Some (kind_of_request m)
kind_asked (Err fault) = None

-- the number of the encoding that bytes begin with, if it is one of namespace 0
abbrev pub encoding_number : List ℕ → Option ℕ
encoding_number octets = id_of_body octets >>= standard_number

-- the same if they are no request
abbrev pub encoding_asked : Result Request RequestFault → List ℕ → Option ℕ
encoding_asked (Ok m) octets = None
encoding_asked (Err fault) octets = encoding_number octets

-- the number of items of what bytes are decoded as
abbrev pub count_asked : Result Request RequestFault → ℕ
count_asked (Ok m) = items_asked m
count_asked (Err fault) = 0

-- the code of a response with this ServiceResult: if the client takes no such body, that of the
-- abort, Bad_ResponseTooLarge (OPC 10000-6, 6.7.3)
abbrev pub code_by : Option CutFault → StatusCode → StatusCode
code_by None code = code
code_by (Some fault) code = of_code bad_response_too_large

-- the code of a response in this lane
abbrev pub code_at : Option Lane → Response → StatusCode
code_at None r = (header_of_response r).service_result
code_at (Some lane) r = code_by (cut_refusal lane (response.canonical r)) (header_of_response r).service_result

-- what is told of a message with these bytes, which is answered in this lane from this state at
-- this time
abbrev pub request_answered : Option Lane → State → DateTime → List ℕ → AnsweredRequest
request_answered lane s moment octets = record {
  kind = kind_asked (request_read octets);
  encoding = encoding_asked (request_read octets) octets;
  items = count_asked (request_read octets);
  code = code_at lane (answered s moment octets).1;
}

-- ---- the requests of a connection

-- the request that is answered of one thing, if it is one
abbrev pub request_at : ℕ → Course → Told → Option AnsweredRequest
request_at channel c (Agreed agreement) = None
request_at channel c (Opened id handle token lifetime) = None
request_at channel c (Asked id token octets) = Some (request_answered (lane_at channel token c.agreement) c.state (first_time c.moments) octets)
request_at channel c (GaveUp id) = None
request_at channel c Closed = None

-- the requests with one before it, if there is one
abbrev pub with_first : {A : Type 0} → Option A → List A → List A
with_first None xs = xs
with_first (Some x) xs = x ∷ xs

-- the requests that are answered of what is told, in order
abbrev pub requests_of : ℕ → Course → List Told → List AnsweredRequest
requests_of channel c [] = []
requests_of channel c (t ∷ told) = with_first (request_at channel c t) (requests_of channel (say channel c t).1 told)

-- the requests that a server in this state answers of what it is told, at these times
unfoldable pub requests_answered : ℕ → State → List Told → List DateTime → List AnsweredRequest
requests_answered channel s told moments = requests_of channel (start s moments) told
