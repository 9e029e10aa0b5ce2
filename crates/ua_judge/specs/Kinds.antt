-- Which kinds of replies answer which requests, by the encodings that bodies begin with (OPC 10000-6,
-- 5.2.9 and A.3; `ua_services` has the kinds and their numbers).
use Rattle.std.specs.Prelude.{ℕ, ◌==◌, ◌-◌, nat_lt, Bool, true, false, ◌||◌, not, cond, List, slice_get, Option, Some, None}
use Rattle.ua_builtin.specs.Exact.{◌>>=◌}
use Rattle.ua_opening.specs.Message.{id_of_body, standard_number}
use Rattle.ua_services.specs.Request.{request_kind_numbered}
use Rattle.ua_services.specs.Response.{own_answer, responses}
use Rattle.ua_services.specs.declared.request.RequestKind.{RequestKind}
use Rattle.ua_services.specs.declared.response.ResponseKind.TheVariants.{ServiceFault}
use Rattle.ua_channel.specs.ClientTold.{ClientTold}
use Rattle.ua_channel.specs.ClientTold.ClientTold.{Answered}
use Rattle.ua_judge.specs.declared.named.Named.{Named}

-- the number of the encoding that a body begins with, if it begins with one of the standard's
abbrev pub encoding_of : List ℕ → Option ℕ
encoding_of body = id_of_body body >>= standard_number

-- the kind of request that a body begins as: none if it begins with no NodeId, or with that of another
-- service
abbrev pub request_kind_of : List ℕ → Option RequestKind
request_kind_of body = encoding_of body >>= request_kind_numbered

-- this encoding is that of the response to a request of this kind, or of a ServiceFault
abbrev pub is_reply_to : RequestKind → ℕ → Bool
is_reply_to kind number = (number == responses.number (own_answer kind)) || (number == responses.number ServiceFault)

-- the same of the encoding that a reply begins with, if it begins with one
abbrev pub is_reply_of_kind : RequestKind → Option ℕ → Bool
is_reply_of_kind kind None = false
is_reply_of_kind kind (Some number) = is_reply_to kind number

-- a reply with this body answers such a request: any reply does if the kind of the request is not known
abbrev pub is_fit_answer : Option RequestKind → List ℕ → Bool
is_fit_answer None body = true
is_fit_answer (Some kind) body = is_reply_of_kind kind (encoding_of body)

-- the kind of a request, if there is one
abbrev pub kind_in : Option Named → Option RequestKind
kind_in None = None
kind_in (Some request) = request.kind

-- the kind of the request under one of our RequestIds: they are counted from 2, after the first OPN
abbrev pub kind_asked_under : List Named → ℕ → Option RequestKind
kind_asked_under requests id = cond (nat_lt id 2) None (kind_in (slice_get requests (id - 2)))

-- a reply to one of these requests that is of another kind
abbrev pub is_misfit : List Named → ClientTold → Bool
is_misfit requests (Answered id body) = not (is_fit_answer (kind_asked_under requests id) body)
is_misfit requests other = false
