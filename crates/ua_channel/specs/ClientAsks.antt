-- What a client sends for an operation, and why it sends nothing: by what it received and
-- requested, and by what an open channel keeps.
use Rattle.std.specs.Prelude.{◌≡◌, ℕ, ◌+◌, ◌-◌, ◌<◌, ◌≤◌, nat_le, Bool, ◌||◌, is_none, is_some, length, map, List, [], ◌∷◌, Option, Some, None, Result, Ok, Err}
use Rattle.std.specs.List.{AllByRecursion, range_with_len}
use Rattle.ua_builtin.specs.declared.date_time.DateTime.{DateTime}
use Rattle.ua_frame.specs.declared.ack.Ack.{Ack}
use Rattle.ua_frame.specs.declared.limits.Limits.{Limits}
use Rattle.ua_frame.specs.Frames.{frame_octets}
use Rattle.ua_chunk.specs.Assembling.{Stands, octet_limit, chunk_limit, last_number}
use Rattle.ua_chunk.specs.Cutting.{pieces, chunks_of, chunks_octets, number_after}
use Rattle.ua_chunk.specs.Refusal.{passes}
use Rattle.ua_chunk.specs.Sequence.{next_number}
use Rattle.ua_chunk.specs.declared.chunk.Chunk.{Chunk}
use Rattle.ua_chunk.specs.declared.lane.Lane.{Lane}
use Rattle.ua_channel.specs.Agreement.{headers_size}
use Rattle.ua_channel.specs.Asks.{Asking, id_of, next_id, pending_calls, pending_renewals}
use Rattle.ua_channel.specs.ClientSends.{renewal_frame, close_frame}
use Rattle.ua_channel.specs.ClientTable.{of_ack}
use Rattle.ua_channel.specs.ClientTokens.{open_responses, opened_ids, first_channel, held_tokens}
use Rattle.ua_channel.specs.Received.{Received, has_some, latest, listed}
use Rattle.ua_channel.specs.declared.client.fault.AskFault.{AskFault}
use Rattle.ua_channel.specs.declared.client.fault.AskFault.TheVariants.{NotOpen, TooManyPending, RenewPending, TooManyTokens}
use Rattle.ua_channel.specs.declared.client.fault.AskFault.TheVariants.{Exhausted, RequestTooLarge, OutOfMemory}
use Rattle.ua_channel.specs.declared.client.talking.Talking.{Talking}

-- ---- calls

-- the most calls that may be unanswered
abbrev pub most_pending : ℕ
most_pending = 64

-- the most tokens that are held when a further one is requested
abbrev pub most_tokens : ℕ
most_tokens = 16

-- the first number that is the RequestId of no call and of no renewal; the CLO may have it
abbrev pub no_id : ℕ
no_id = 4294967295

-- the maximum chunk body size: what the server receives less the headers
abbrev pub room_of : Ack → ℕ
room_of a = a.receive_buffer_size - headers_size

-- the server does not take a message with this body: it has too many bytes, or too many chunks (OPC
-- 10000-6, 7.1.2.4)
abbrev pub is_too_large : Ack → List ℕ → Bool
is_too_large a body = passes a.max_message_size (length body) || passes a.max_chunk_count (length (pieces (room_of a) body))

-- the lane of calls on this channel: under this token, in frames of the size that the server
-- receives, within the server's limits
abbrev pub call_lane : Ack → ℕ → ℕ → Lane
call_lane a channel token = record { channel = channel; token = token; room = room_of a; octets = a.max_message_size; chunks = a.max_chunk_count }

-- why a call with a body, which is too large or not, is refused if this RequestId is next, in the
-- order in which it is judged
abbrev pub reasons_of_body : ℕ → Bool → List (AskFault × Bool)
reasons_of_body next large = (Exhausted, nat_le no_id next) ∷ (RequestTooLarge, large) ∷ []

-- the same for an open channel with this many unanswered calls
abbrev pub reasons_of_call : ℕ → ℕ → Bool → List (AskFault × Bool)
reasons_of_call pending next large = (TooManyPending, nat_le most_pending pending) ∷ reasons_of_body next large

-- why no further token is requested if this many are held and this RequestId is next, in the order
-- in which it is judged
abbrev pub reasons_of_token : ℕ → ℕ → List (AskFault × Bool)
reasons_of_token tokens next = (TooManyTokens, nat_le most_tokens tokens) ∷ (Exhausted, nat_le no_id next) ∷ []

-- the same if a renewal is unanswered or not
abbrev pub reasons_of_renewal : Bool → ℕ → ℕ → List (AskFault × Bool)
reasons_of_renewal pending tokens next = (RenewPending, pending) ∷ reasons_of_token tokens next

-- ---- by what was received and asked, wherever the bytes end

-- a channel is open: the server acknowledged this, the first response brought this channel, and
-- this is the newest token
pub record IsOpenOn (before : Received) (a : Ack) (channel newest : ℕ) : Type 0 where
  pub ack_is : before.ack ≡ Some a
  pub channel_is : first_channel (open_responses before.openings) ≡ Some channel
  pub newest_is : latest (held_tokens before) ≡ Some newest

-- no channel is open: no good response came yet
abbrev pub has_no_channel : Received → Bool
has_no_channel before = is_none (first_channel (open_responses before.openings))

-- a call with this body, with this SequenceNumber first: the next RequestId, the chunks of the
-- body, and the number after them
pub record IsCalled (before : Received) (asked : List Asking) (number : ℕ) (body : List ℕ) (id : ℕ) (out : List ℕ) (next : ℕ) : Type 0 where
  pub ack : Ack
  pub channel : ℕ
  pub newest : ℕ
  pub is_open : IsOpenOn before ack channel newest
  pub id_is : id ≡ next_id asked
  pub out_is : out ≡ chunks_octets (chunks_of (call_lane ack channel newest) body number id)
  pub next_is : next ≡ number_after number (pieces (room_of ack) body)

-- a renewal with this SequenceNumber: the next RequestId, the OPN, and the number after it
pub record IsRenewalWith (before : Received) (asked : List Asking) (number : ℕ) (moment : DateTime) (id : ℕ) (out : List ℕ) (next : ℕ) : Type 0 where
  pub channel : ℕ
  pub channel_is : first_channel (open_responses before.openings) ≡ Some channel
  pub id_is : id ≡ next_id asked
  pub out_is : out ≡ frame_octets (renewal_frame channel number id moment)
  pub next_is : next ≡ next_number number

-- a close with this SequenceNumber: the CLO under the newest token and the next RequestId
pub record IsCloseWith (before : Received) (asked : List Asking) (number : ℕ) (moment : DateTime) (out : List ℕ) : Type 0 where
  pub channel : ℕ
  pub newest : ℕ
  pub channel_is : first_channel (open_responses before.openings) ≡ Some channel
  pub newest_is : latest (held_tokens before) ≡ Some newest
  pub out_is : out ≡ frame_octets (close_frame channel newest number (next_id asked) moment)

-- why a call with this body is refused after this many more calls, in the order in which it is
-- judged
abbrev pub call_reasons : Received → List Asking → ℕ → List ℕ → List (AskFault × Bool)
call_reasons before asked more body =
    (NotOpen, has_no_channel before)
    ∷ reasons_of_call (length (pending_calls before.messages asked) + more) (next_id asked + more) (of_ack (λ (a : Ack). is_too_large a body) before.ack)

-- why a renewal is refused, in the order in which it is judged
abbrev pub renewing_reasons : Received → List Asking → List (AskFault × Bool)
renewing_reasons before asked =
    (NotOpen, has_no_channel before) ∷ reasons_of_renewal (has_some (pending_renewals (opened_ids before.openings) asked)) (length (held_tokens before))
    (next_id asked)

-- why a channel refuses to be closed
abbrev pub closing_reasons : Received → List (AskFault × Bool)
closing_reasons before = (NotOpen, has_no_channel before) ∷ []

-- ---- where an open channel stands

-- the state of an open channel is that after these bytes and operations
pub record Talks (limits : Limits) (t : Talking) (before : Received) (asked : List Asking) : Type 0 where
  pub ack_is : before.ack ≡ Some t.agreed.ack
  pub channel_is : first_channel (open_responses before.openings) ≡ Some t.channel
  pub tokens_are : t.tokens.items ≡ held_tokens before
  pub newest_is : latest (held_tokens before) ≡ Some t.newest
  pub pending_are : t.pending.items ≡ pending_calls before.messages asked
  pub few_pending : length t.pending.items ≤ most_pending
  pub renewal_is : listed t.renewal ≡ pending_renewals (opened_ids before.openings) asked
  pub next_is : t.next ≡ next_id asked
  pub asked_below : AllByRecursion (λ (a : Asking). id_of a < t.next) asked
  pub counted : map id_of asked ≡ range_with_len 2 (length asked)
  pub sent_below : AllByRecursion (λ (c : Chunk). c.request < t.next) before.messages
  pub opened_below : AllByRecursion (λ (id : ℕ). id < t.next) (opened_ids before.openings)
  pub last_is : before.last ≡ last_number t.assembler
  pub assembles : Stands t.assembler before.messages
  pub octets : octet_limit t.assembler ≡ limits.max_message_size
  pub chunks : chunk_limit t.assembler ≡ limits.max_chunk_count

-- ---- asks of an open channel

-- why a call with this body is refused after this many more calls, in the order in which it is
-- judged
abbrev pub ask_reasons : Talking → ℕ → List ℕ → List (AskFault × Bool)
ask_reasons t more body = reasons_of_call (length t.pending.items + more) (t.next + more) (is_too_large t.agreed.ack body)

-- the bytes of a call with this body, its RequestId, and the number that is sent next
pub record Calls (t : Talking) (number : ℕ) (body : List ℕ) (id : ℕ) (out : List ℕ) (next : ℕ) : Type 0 where
  pub id_is : id ≡ t.next
  pub out_is : out ≡ chunks_octets (chunks_of (call_lane t.agreed.ack t.channel t.newest) body number id)
  pub next_is : next ≡ number_after number (pieces (room_of t.agreed.ack) body)

-- why a renewal is refused, in the order in which it is judged
abbrev pub renew_reasons : Talking → List (AskFault × Bool)
renew_reasons t = reasons_of_renewal (is_some t.renewal) (length t.tokens.items) t.next

-- the bytes of a renewal, its RequestId, and the number that is sent next
pub record AsksRenewal (t : Talking) (number : ℕ) (moment : DateTime) (id : ℕ) (out : List ℕ) (next : ℕ) : Type 0 where
  pub id_is : id ≡ t.next
  pub out_is : out ≡ frame_octets (renewal_frame t.channel number id moment)
  pub next_is : next ≡ next_number number

-- the bytes of the close
abbrev pub closing_octets : Talking → ℕ → DateTime → List ℕ
closing_octets t number moment = frame_octets (close_frame t.channel t.newest number t.next moment)

-- ---- faults

-- the fault is this reason, or an allocation failed if there is no reason
abbrev pub IsAskFaultFor : Option AskFault → AskFault → Type 0
IsAskFaultFor reason NotOpen = reason ≡ Some NotOpen
IsAskFaultFor reason TooManyPending = reason ≡ Some TooManyPending
IsAskFaultFor reason RenewPending = reason ≡ Some RenewPending
IsAskFaultFor reason TooManyTokens = reason ≡ Some TooManyTokens
IsAskFaultFor reason Exhausted = reason ≡ Some Exhausted
IsAskFaultFor reason RequestTooLarge = reason ≡ Some RequestTooLarge
IsAskFaultFor reason OutOfMemory = reason ≡ None

-- the outcome, by why the operation may be refused
abbrev pub AnswersFor : {A : Type 0} → Option AskFault → Result A AskFault → Type 0
AnswersFor reason (Ok found) = reason ≡ None
AnswersFor reason (Err fault) = IsAskFaultFor reason fault

-- the judgement of any body of this length, by why a call with a body may be refused
abbrev pub JudgesBy : (List ℕ → Option AskFault) → ℕ → Result (Unit {0}) AskFault → Type 0
JudgesBy refusal len (Ok found) = (body : List ℕ) → length body ≡ len → refusal body ≡ None
JudgesBy refusal len (Err fault) = (body : List ℕ) → length body ≡ len → refusal body ≡ Some fault
