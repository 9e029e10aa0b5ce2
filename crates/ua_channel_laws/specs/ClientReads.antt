-- What a client decodes of a server that keeps to the protocol, one message after the other.
use Rattle.std.specs.Prelude.{◌≡◌, ◌<◌, ◌≤◌, ◌+◌, ◌^◌, ◌==◌, ◌++◌, ◌∷◌, ℕ, List, [], IsTrue, IsFalse, Option, Some, None, not, length}
use Rattle.std.specs.List.{AllByRecursion, filter}
use Rattle.ua_builtin.specs.DateTime.{date_time}
use Rattle.ua_builtin.specs.Status.{of_code}
use Rattle.ua_builtin.specs.declared.date_time.DateTime.{DateTime}
use Rattle.ua_frame.specs.Run.{Going, Run, events}
use Rattle.ua_frame.specs.declared.ack.Ack.{Ack}
use Rattle.ua_frame.specs.declared.frame.Frame.{Frame}
use Rattle.ua_frame.specs.declared.limits.Limits.{Limits}
use Rattle.ua_chunk.specs.Open.{open_ids}
use Rattle.ua_chunk.specs.Sequence.{may_follow}
use Rattle.ua_chunk.specs.declared.chunk.Chunk.{Chunk}
use Rattle.ua_chunk.specs.Refusal.{passes}
use Rattle.ua_chunk.specs.declared.fault.CutFault.{CutFault}
use Rattle.ua_chunk.specs.declared.lane.Lane.{Lane}
use Rattle.ua_channel.specs.Asks.{Asking, Placed, asked_in, id_of, is_in, next_id, pending_calls, pending_renewals}
use Rattle.ua_channel.specs.ClientAsks.{call_lane}
use Rattle.ua_channel.specs.ClientTable.{client_rules}
use Rattle.ua_channel.specs.ClientTokens.{first_channel, from_last, held_tokens, opened_ids, open_responses}
use Rattle.ua_channel.specs.ClientTold.{ClientTold, ClientTold as told}
use Rattle.ua_channel.specs.Received.{Received, latest, nothing_received, received}

-- ---- where a client is

-- a client with these limits decodes these bytes as an ACK that it agrees to, and was told this
pub record ClientAgrees (limits : Limits) (octets : List ℕ) (told : List ClientTold) (ack : Ack) : Type 0 where
  pub frames : List Frame
  pub run : Run (client_rules limits []) octets frames [] Going
  pub told_is : events (client_rules limits []) frames ≡ told
  pub received_is : received frames ≡ record nothing_received { ack = Some ack }
  pub large : 8192 ≤ ack.send_buffer_size
  pub sized : ack.send_buffer_size < 2 ^ 32

-- the state of a client between two messages of its server
pub record AtClient : Type 0 where
  -- what the server acknowledged
  pub ack : Ack
  -- the channel
  pub channel : ℕ
  -- the tokens that are held, in the order in which they came
  pub tokens : List ℕ
  -- the newest of them, under which calls go
  pub newest : ℕ
  -- the calls that are unanswered, by their RequestIds
  pub pending : List ℕ
  -- the renewals that are unanswered, by their RequestIds
  pub renewals : List ℕ
  -- the number of the next chunk
  pub next : ℕ

-- the state with this Acknowledge, channel and newest token, if there are these
abbrev pub client_with : Option Ack → Option ℕ → Option ℕ → List ℕ → List ℕ → List ℕ → ℕ → Option AtClient
client_with (Some a) (Some channel) (Some newest) tokens pending renewals next =
    Some (record { ack = a; channel = channel; tokens = tokens; newest = newest; pending = pending; renewals = renewals; next = next })
client_with a channel newest tokens pending renewals next = None

-- the state of a client that received this and sent these operations, with this number next; none
-- before the first OPN response
abbrev pub at_client : Received → List Asking → ℕ → Option AtClient
at_client before asked next =
    client_with before.ack (first_channel (open_responses before.openings)) (latest (held_tokens before)) (held_tokens before)
    (pending_calls before.messages asked) (pending_renewals (opened_ids before.openings) asked) next

-- a client with these limits and operations decodes these bytes as whole frames that are good, with
-- no message unfinished after them; they told it this, and then it has this state
pub record ClientReads (limits : Limits) (asks : List Placed) (octets : List ℕ) (told : List ClientTold) (at : AtClient) : Type 0 where
  pub frames : List Frame
  pub run : Run (client_rules limits asks) octets frames [] Going
  pub placed : AllByRecursion (λ (a : Placed). a.0 ≤ length octets) asks
  pub told_is : events (client_rules limits asks) frames ≡ told
  pub ack_is : (received frames).ack ≡ Some at.ack
  pub large : 8192 ≤ at.ack.send_buffer_size
  pub sized : at.ack.send_buffer_size < 2 ^ 32
  pub channel_is : first_channel (open_responses (received frames).openings) ≡ Some at.channel
  pub tokens_are : held_tokens (received frames) ≡ at.tokens
  pub newest_is : latest at.tokens ≡ Some at.newest
  pub pending_are : pending_calls (received frames).messages (asked_in asks) ≡ at.pending
  pub renewals_are : pending_renewals (opened_ids (received frames).openings) (asked_in asks) ≡ at.renewals
  pub asked_below : AllByRecursion (λ (a : Asking). id_of a < next_id (asked_in asks)) (asked_in asks)
  pub sent_below : AllByRecursion (λ (c : Chunk). c.request < next_id (asked_in asks)) (received frames).messages
  pub opened_below : AllByRecursion (λ (id : ℕ). id < next_id (asked_in asks)) (opened_ids (received frames).openings)
  pub follows : IsTrue (may_follow (received frames).last at.next)
  pub next_small : at.next ≤ 4294966272
  pub none_open : open_ids (received frames).messages ≡ []

-- ---- what the client sends there

-- the lane of its calls: on the channel, under the newest token, in frames of the size that the
-- server receives, within the server's limits
abbrev pub lane_from : AtClient → Lane
lane_from at = call_lane at.ack at.channel at.newest

-- ---- what a server may send next

-- a size within the first limit is within the second, where 0 is no limit
abbrev pub IsTighter : ℕ → ℕ → Type 0
IsTighter a b = (n : ℕ) → IsFalse (passes a n) → IsFalse (passes b n)

-- a lane to the client: on its channel, under a token that it holds, in frames that it takes,
-- within its limits of messages
pub record IsLaneBack (limits : Limits) (at : AtClient) (lane : Lane) : Type 0 where
  pub on : lane.channel ≡ at.channel
  pub held : IsTrue (is_in lane.token at.tokens)
  pub on_small : lane.channel < 2 ^ 32
  pub token_small : lane.token < 2 ^ 32
  pub some : 0 < lane.room
  pub fits : 24 + lane.room ≤ at.ack.send_buffer_size
  pub octets : IsTighter lane.octets limits.max_message_size
  pub chunks : lane.chunks ≡ limits.max_chunk_count

-- an OPN response that can be encoded: on this channel, with this SequenceNumber and RequestId,
-- this RequestHandle, token and lifetime, created at this time
pub record IsAnswered (channel number id handle token lifetime : ℕ) (moment : DateTime) : Type 0 where
  pub channel_small : channel < 2 ^ 32
  pub number_small : number ≤ 4294966272
  pub id_small : id < 2 ^ 32
  pub handle_small : handle < 2 ^ 32
  pub token_small : token < 2 ^ 32
  pub lifetime_small : lifetime < 2 ^ 32
  pub moment_fits : IsTrue (date_time.encodable moment)

-- what a reply with this body under this RequestId tells, given the reason why its body is not
-- split, if there is one: the reply, or that it was aborted with Bad_ResponseTooLarge
abbrev pub told_reply : Option CutFault → ℕ → List ℕ → ClientTold
told_reply None id body = told.Answered id body
told_reply (Some fault) id body = told.GaveUp id (of_code 0x80B9_0000)

-- ---- where the client then is

-- after the first OPN response, with this number next
abbrev pub opened_at : Ack → ℕ → ℕ → ℕ → AtClient
opened_at a channel token next = record { ack = a; channel = channel; tokens = token ∷ []; newest = token; pending = []; renewals = []; next = next }

-- the others of these RequestIds
abbrev pub without_id : ℕ → List ℕ → List ℕ
without_id id ids = filter (λ (j : ℕ). not (j == id)) ids

-- with one more call that is unanswered
abbrev pub with_call : AtClient → ℕ → AtClient
with_call at id = record at { pending = at.pending ++ id ∷ [] }

-- with one more renewal that is unanswered
abbrev pub with_renewal : AtClient → ℕ → AtClient
with_renewal at id = record at { renewals = at.renewals ++ id ∷ [] }

-- after a reply under this token to this call, with this number next
abbrev pub with_reply : AtClient → ℕ → ℕ → ℕ → AtClient
with_reply at token id next = record at { tokens = from_last token at.tokens; pending = without_id id at.pending; next = next }

-- after the response to the one renewal, which brings this token, with this number next
abbrev pub with_answer : AtClient → ℕ → ℕ → AtClient
with_answer at token next = record at { tokens = at.tokens ++ token ∷ []; newest = token; renewals = []; next = next }
