-- The headline in words of calls and replies: of which calls the services of a server are told, and
-- what a client has of each, while calls wait and bytes are on their way. No definition here says how
-- anything is written (OPC 10000-6, 6.7 and 7.1).
use Rattle.std.specs.Prelude.{◌≡◌, ℕ, ◌+◌, ◌-◌, ◌*◌, ◌<◌, ◌≤◌, ◌++◌, min, nat_lt, Bool, IsTrue, ◌||◌, cond, List, [], ◌∷◌, length, None, Result, Ok, Err}
use Rattle.ua_builtin.specs.Status.{of_code}
use Rattle.ua_builtin.specs.DateTime.{date_time}
use Rattle.ua_builtin.specs.declared.date_time.DateTime.{DateTime}
use Rattle.ua_builtin.specs.declared.status_code.StatusCode.{StatusCode}
use Rattle.ua_frame.specs.Run.{Going}
use Rattle.ua_chunk.specs.Refusal.{passes}
use Rattle.ua_channel.specs.Asks.{Asking, Placed}
use Rattle.ua_channel.specs.Asks.Asking.{Call, Renewal}
use Rattle.ua_channel.specs.Client.{ClientGoes, SendsCall, SendsRenewal, call_refused, client_limits, client_next, renewal_refused}
use Rattle.ua_channel.specs.ClientTold.{ClientTold, ClientTold as heard}
use Rattle.ua_channel.specs.ServerStands.{Goes, channel_of, limits_of}
use Rattle.ua_channel.specs.ServerTold.{Told, Asked}
use Rattle.ua_channel.specs.declared.client.channel.ClientChannel.{ClientChannel}
use Rattle.ua_channel.specs.declared.client.fault.AskFault.{AskFault}
use Rattle.ua_channel.specs.declared.client.fault.AskFault.TheVariants as fault
use Rattle.ua_channel.specs.declared.server.ServerChannel.{ServerChannel}
use Rattle.ua_channel_laws.specs.Outgoing.Outgoing.{CallWith, RenewalAt}
use Rattle.ua_channel_laws.specs.Outgoing.{Outgoing, asking_of}
use Rattle.ua_client.specs.Opening.{hello_octets, open_frame_octets}
use Rattle.ua_services.specs.Response.{response}
use Rattle.ua_server.specs.Reply.{answered}
use Rattle.ua_server.specs.Said.{behind_first, first_time, output_of}
use Rattle.ua_server.specs.State.{State}
use Rattle.ua_headline.specs.Talk.{Ends, IsPrefix}

-- ---- what a client does, and what reaches it

-- what a client did with its channel so far: its operations, calls and renewals of the token, in
-- order; each with its place among the bytes that came; these bytes; what they told it; and the bytes
-- that it sent
pub record History : Type 0 where
  pub ops : List Outgoing
  pub asks : List Placed
  pub got : List ℕ
  pub heard : List ClientTold
  pub sent : List ℕ

-- these bytes can have come back over an honest transport where those were sent: a server with its
-- limits, on its channel, took a prefix of what was sent, and they are a prefix of what it writes, by
-- what it was told
pub record CameBack (e : Ends) (sent got : List ℕ) : Type 0 where
  pub x : ServerChannel
  pub limits_are : limits_of x ≡ e.server
  pub channel_is : channel_of x ≡ e.channel
  pub took : List ℕ
  pub took_is : IsPrefix took sent
  pub told : List Told
  pub goes : Goes x took told
  pub got_is : IsPrefix got (output_of e.channel e.first told Going e.times)

-- the history after the HEL and the OPN, which the client sent
abbrev pub opened : Ends → List ℕ → List ClientTold → History
opened e got told = record { ops = []; asks = []; got = got; heard = told; sent = hello_octets e.client e.url ++ open_frame_octets e.opened }

-- with more bytes that came, after which it was told this
abbrev pub with_bytes : History → List ℕ → List ClientTold → History
with_bytes h more told = record { ops = h.ops; asks = h.asks; got = h.got ++ more; heard = told; sent = h.sent }

-- with an operation more under this RequestId, for which it sent these bytes
abbrev pub with_op : History → ℕ → Outgoing → List ℕ → History
with_op h id o out = record {
  ops = h.ops ++ o ∷ [];
  asks = h.asks ++ (length h.got, asking_of id o) ∷ [];
  got = h.got;
  heard = h.heard;
  sent = h.sent ++ out;
}

-- how many renewals are among operations
abbrev pub renewals_in : List Outgoing → ℕ
renewals_in [] = 0
renewals_in (CallWith body ∷ os) = renewals_in os
renewals_in (RenewalAt time ∷ os) = renewals_in os + 1

-- the tokens of which a client was told: the first, and one for each renewal that is answered
abbrev pub tokens_in : List ClientTold → List ℕ
tokens_in [] = []
tokens_in (heard.Opened channel token ∷ told) = token ∷ tokens_in told
tokens_in (heard.Renewed token ∷ told) = token ∷ tokens_in told
tokens_in (other ∷ told) = tokens_in told

-- a client has this history: it sent the HEL and the OPN; and then, in any order, it took bytes that
-- came, in whatever fragments; or called, whatever calls are unanswered, but no renewal; or renewed
-- its token, where all is answered. Of a call, a renewal and bytes that are taken it says just what
-- the clauses of `ask`, `renew` and `take` of a `ClientChannel` say
pub data Did (e : Ends) : ClientChannel → History → Type 0 where
  Opened : (y : ClientChannel) (got : List ℕ) (told : List ClientTold)
      → client_limits y ≡ e.client → client_next y ≡ 2 → ClientGoes y [] got told
      → CameBack e (hello_octets e.client e.url ++ open_frame_octets e.opened) got → Did e y (opened e got told)
  Took : {x : ClientChannel} {h : History} (y : ClientChannel) (more : List ℕ) (told : List ClientTold) → Did e x h
      → client_limits y ≡ client_limits x → client_next y ≡ client_next x → ClientGoes y h.asks (h.got ++ more) told
      → CameBack e h.sent (h.got ++ more) → Did e y (with_bytes h more told)
  Called : {x : ClientChannel} {h : History} (y : ClientChannel) (id : ℕ) (body out : List ℕ) → Did e x h
      → length (tokens_in h.heard) ≡ renewals_in h.ops + 1
      → client_limits y ≡ client_limits x → 0 < length body → call_refused x 0 body ≡ None
      → SendsCall x (client_next x) body id out (client_next y)
      → ClientGoes y (h.asks ++ (length h.got, Call id) ∷ []) h.got h.heard → Did e y (with_op h id (CallWith body) out)
  Renewed : {x : ClientChannel} {h : History} (y : ClientChannel) (id : ℕ) (time : DateTime) (out : List ℕ) → Did e x h
      → length h.heard ≡ length h.ops + 2
      → client_limits y ≡ client_limits x → IsTrue (date_time.encodable time) → renewal_refused x ≡ None
      → SendsRenewal x (client_next x) time id out (client_next y)
      → ClientGoes y (h.asks ++ (length h.got, Renewal id) ∷ []) h.got h.heard → Did e y (with_op h id (RenewalAt time) out)

-- ---- what it may refuse

-- a call of this many bytes is too large for the server: for its limit of a message, or for as many
-- chunks as it takes, in frames of the size that both allow
abbrev pub is_too_long : Ends → ℕ → Bool
is_too_long e n =
    passes e.server.max_message_size n
    || nat_lt (e.server.max_chunk_count * (min e.server.receive_buffer_size e.client.send_buffer_size - 24)) n

-- why a client with this history may refuse a call with this body: it was not told yet that its
-- channel is open; or 64 operations are unanswered, as each answered one told it something, beside
-- what was agreed and its token; or no RequestId is left; or the call is too large for the server
abbrev pub MayRefuse : Ends → History → List ℕ → AskFault → Type 0
MayRefuse e h body fault.NotOpen = length h.heard < 2
MayRefuse e h body fault.TooManyPending = length h.heard + 62 ≤ length h.ops
MayRefuse e h body fault.Exhausted = 4294967293 ≤ length h.ops
MayRefuse e h body fault.RequestTooLarge = IsTrue (is_too_long e (length body))
MayRefuse e h body other = ⊥

-- ---- what is due

-- the bodies of the calls among operations, each with its RequestId, from this one on
abbrev pub numbered_from : ℕ → List Outgoing → List (ℕ × List ℕ)
numbered_from id [] = []
numbered_from id (CallWith body ∷ os) = (id, body) ∷ numbered_from (id + 1) os
numbered_from id (RenewalAt time ∷ os) = numbered_from (id + 1) os

-- what a client asks by operations, under the RequestIds from this one on
abbrev pub asked_from : ℕ → List Outgoing → List Asking
asked_from id [] = []
asked_from id (o ∷ os) = asking_of id o ∷ asked_from (id + 1) os

-- a response of this many bytes is too large: for the client's limit of a message, or for the server's
-- own limit of a response, of which 0 is none; or for as many chunks as the client takes, in frames of
-- the size that both allow
abbrev pub exceeds : Ends → ℕ → Bool
exceeds e n =
    passes e.client.max_message_size n
    || (passes e.server.max_response_size n
    || nat_lt (e.client.max_chunk_count * (min e.server.send_buffer_size e.client.receive_buffer_size - 24)) n)

-- what a client has of a response with this body: the body; or the code Bad_ResponseTooLarge
abbrev pub reply_of : Ends → List ℕ → Result (List ℕ) StatusCode
reply_of e body = cond (exceeds e (length body)) (Err (of_code 0x80B9_0000)) (Ok body)

-- what is due to operations, from this state, these times and this RequestId on: to each call the
-- services' response to its body, in the state that the calls before it left, under its RequestId; a
-- renewal takes a time, as its token is dated too
abbrev pub replies_due : Ends → State → List DateTime → ℕ → List Outgoing → List (ℕ × Result (List ℕ) StatusCode)
replies_due e s times id [] = []
replies_due e s times id (CallWith body ∷ os) =
    (id, reply_of e (response.canonical (answered s (first_time times) body).1))
    ∷ replies_due e (answered s (first_time times) body).0 (behind_first times) (id + 1) os
replies_due e s times id (RenewalAt time ∷ os) = replies_due e s (behind_first times) (id + 1) os

-- ---- what was told

-- the whole messages of which a server was told, each with its RequestId: its services answer these
abbrev pub handed_in : List Told → List (ℕ × List ℕ)
handed_in [] = []
handed_in (Asked id token body ∷ told) = (id, body) ∷ handed_in told
handed_in (other ∷ told) = handed_in told

-- the replies of which a client was told, each with its RequestId: a body, or the code of an abort
abbrev pub replies_in : List ClientTold → List (ℕ × Result (List ℕ) StatusCode)
replies_in [] = []
replies_in (heard.Answered id body ∷ told) = (id, Ok body) ∷ replies_in told
replies_in (heard.GaveUp id code ∷ told) = (id, Err code) ∷ replies_in told
replies_in (other ∷ told) = replies_in told

-- of these operations a server was told of the first, these: each call whole, once, in order, under
-- its own RequestId; and beside them at most of their renewals, the agreement and the first token
pub record AreTold (ops done : List Outgoing) (told : List Told) : Type 0 where
  pub first : IsPrefix done ops
  pub handed : handed_in told ≡ numbered_from 2 done
  pub alone : length told ≤ length done + 2

-- of these operations the first, these, are answered to a client: each call once, in order, under its
-- own RequestId, by what is due to it; and beside that it was told at most of their tokens, the
-- agreement and its first token
pub record AreAnswered (e : Ends) (ops done : List Outgoing) (told : List ClientTold) : Type 0 where
  pub first : IsPrefix done ops
  pub replies : replies_in told ≡ replies_due e e.first (behind_first e.times) 2 done
  pub alone : length told ≤ length done + 2
