-- What the parts of a client make of a frame, and of a fragment.
use Rattle.std.specs.Prelude.{◌≡◌, ℕ, ◌==◌, Bool, true, false, ◌||◌, if◌then◌else◌, not, map, nat_le}
use Rattle.std.specs.Prelude.{is_none, List, [], ◌∷◌, ◌++◌, Option, Some, None, Result, Ok, Err}
use Rattle.std.specs.List.{filter}
use Rattle.ua_builtin.specs.Reasons.{first_reason, renamed_reason}
use Rattle.ua_builtin.specs.declared.date_time.DateTime.{DateTime}
use Rattle.ua_frame.specs.declared.ack.Ack.{Ack}
use Rattle.ua_frame.specs.declared.error.ErrorFrame.{ErrorFrame}
use Rattle.ua_frame.specs.declared.limits.Limits.{Limits}
use Rattle.ua_chunk.specs.Assembling.{Stands, SameLimits, octet_limit, chunk_limit, last_number}
use Rattle.ua_chunk.specs.Delivered.{given}
use Rattle.ua_chunk.specs.Gathered.{ends, gathered, bodies}
use Rattle.ua_chunk.specs.Refusal.{reasons}
use Rattle.ua_chunk.specs.Sequence.{may_follow}
use Rattle.ua_chunk.specs.View.{delivered_items, HasParts}
use Rattle.ua_chunk.specs.declared.chunk.Chunk.{Chunk}
use Rattle.ua_chunk.specs.declared.delivered.Delivered.{Delivered}
use Rattle.ua_chunk.specs.declared.fault.AssembleFault.{AssembleFault}
use Rattle.ua_opening.specs.declared.open.OpenAnswer.{OpenAnswer}
use Rattle.ua_opening.specs.declared.open.OpenAnswer.TheVariants.{Open as Opened}
use Rattle.ua_opening.specs.declared.secure_channel.OpenResponse.{OpenResponse}
use Rattle.ua_channel.specs.Asks.{Asking, Placed, is_in}
use Rattle.ua_channel.specs.Client.{client_side, InPhase, IsClientDone, client_bound_behind}
use Rattle.ua_channel.specs.ClientAnswers.{TellsOfEvent}
use Rattle.ua_channel.specs.ClientAsks.{Talks}
use Rattle.ua_channel.specs.ClientTable.{client_reasons, is_other, is_awaited, is_bad_answer, result_of, code_in_error, is_outside, of_ack}
use Rattle.ua_channel.specs.ClientTokens.{answer_in, open_responses, opened_ids, first_channel, held_tokens, from_last}
use Rattle.ua_channel.specs.ClientTold.{ClientTold, ClientTold as told, Why, ours, peers, client_tells, told_item}
use Rattle.ua_channel.specs.Content.{Opening, Content}
use Rattle.ua_channel.specs.Content.Content.{Opens, Sends}
use Rattle.ua_channel.specs.inside.Ends.{ComesBy}
use Rattle.ua_channel.specs.ClientEvents.{event_parts, client_told_of_event}
use Rattle.ua_channel.specs.inside.Parts.{IsFaultFor, MayEndIn, parts_in}
use Rattle.ua_channel.specs.Received.{Received, after, nothing_received, listed}
use Rattle.ua_channel.specs.declared.end_fault.EndFault.{EndFault}
use Rattle.ua_channel.specs.declared.client.agreed.Agreed.{Agreed}
use Rattle.ua_channel.specs.declared.client.answer.Answer.{Answer}
use Rattle.ua_channel.specs.declared.client.answer.IssuedToken.{IssuedToken}
use Rattle.ua_channel.specs.declared.client.channel.ClientChannel.{ClientChannel}
use Rattle.ua_channel.specs.declared.client.event.ClientEvent.{ClientEvent}
use Rattle.ua_channel.specs.declared.client.event.ClientEvent.TheVariants as client_event
use Rattle.ua_channel.specs.declared.client.event.Event.{Event}
use Rattle.ua_channel.specs.declared.client.fault.ClientTakeFault.{ClientTakeFault}
use Rattle.ua_channel.specs.declared.client.phase.Phase.{Phase}
use Rattle.ua_channel.specs.declared.client.talking.Talking.{Talking}
use Rattle.ua_channel.specs.inside.EndFaults as end_faults
use Rattle.ua_channel.specs.declared.end_fault.EndFault.TheVariants.{Refused, Peer, OutOfMemory, Closed}
use Rattle.ua_channel.specs.declared.client.event.Event.TheVariants as event
use Rattle.ua_channel.specs.declared.client.fault.ClientTakeFault.TheVariants as take_fault

-- ---- faults

-- a channel stops for the first of these reasons, its own or the server's, or because an allocation
-- fails
abbrev pub IsStopFor : List (Why × Bool) → EndFault → Type 0
IsStopFor reasons fault = IsFaultFor (λ (code : ℕ). first_reason reasons ≡ Some (ours code)) (λ (code : ℕ). first_reason reasons ≡ Some (peers code)) fault

-- the outcome for a frame with these reasons against it: it is taken, and then this holds, or it
-- stops the channel for the first of them
abbrev pub Judged : {A : Type 0} → List (Why × Bool) → (A → Type 0) → Result A EndFault → Type 0
Judged reasons Good (Ok a) = (first_reason reasons ≡ None) × Good a
Judged reasons Good (Err fault) = IsStopFor reasons fault

-- ---- ACK and ERR

-- why the body of an ERR stops a channel, by the Error that it is
abbrev pub error_reasons : Option ErrorFrame → List (Why × Bool)
error_reasons e = (ours 0x8007_0000, is_none e) ∷ (peers (code_in_error e), true) ∷ []

-- why the body of an ACK is rejected, by the Acknowledge that it is
abbrev pub ack_reasons : Limits → Option Ack → List (Why × Bool)
ack_reasons limits a = (ours 0x8007_0000, is_none a) ∷ (ours 0x8081_0000, of_ack (is_outside limits) a) ∷ []

-- this Acknowledge was agreed to
abbrev pub IsAgreed : Option Ack → Agreed → Type 0
IsAgreed found a = found ≡ Some a.ack

-- ---- the answer to an OPN

-- why a response is rejected
abbrev pub response_reasons : OpenResponse → List (Why × Bool)
response_reasons r = (ours r.response_header.service_result.code, nat_le 0x8000_0000 r.response_header.service_result.code) ∷ []

-- a response issues this token
abbrev pub Issues : OpenResponse → IssuedToken → Type 0
Issues r issued = (r.channel_id ≡ issued.channel) × (r.token_id ≡ issued.token)

-- why the body of an OPN is rejected, by the response that it is
abbrev pub body_reasons : Option OpenAnswer → List (Why × Bool)
body_reasons answer = (ours 0x8007_0000, is_none answer) ∷ (ours (result_of answer), is_bad_answer answer) ∷ []

-- the response is an OpenSecureChannel response that issues this token
pub record IsAnsweredBy (answer : Option OpenAnswer) (issued : IssuedToken) : Type 0 where
  pub response : OpenResponse
  pub answer_is : answer ≡ Some (Opened response)
  pub issues : Issues response issued

-- what remains to be judged of a response: its channel, its token, its SequenceNumber, its
-- RequestId
abbrev pub answer_reasons : Received → List Asking → Answer → List (Why × Bool)
answer_reasons before asked a =
    (ours 0x807F_0000, is_other (first_channel (open_responses before.openings)) a.channel)
    ∷ (ours 0x8087_0000, is_in a.token (held_tokens before))
    ∷ (ours 0x8088_0000, not (may_follow before.last a.sequence))
    ∷ (ours 0x8009_0000, not (is_awaited (open_responses before.openings) (opened_ids before.openings) asked a.request))
    ∷ []

-- the response is that of an OPN, a good one, and only what remains is against it
pub record IsAnswerOf (o : Opening) (a : Answer) : Type 0 where
  pub response : OpenResponse
  pub answer_is : answer_in o ≡ Some (Opened response)
  pub numbers_are : o.numbers ≡ Some (a.sequence, a.request)
  pub channel_is : response.channel_id ≡ a.channel
  pub token_is : response.token_id ≡ a.token
  pub remain : (limits : Limits) (before : Received) (asked : List Asking) → first_reason (client_reasons limits before asked (Opens o))
      ≡ first_reason (answer_reasons before asked a)

-- the outcome for an OPN, whatever was received and requested before
abbrev pub JudgesAnswer : Opening → Result Answer EndFault → Type 0
JudgesAnswer o (Ok a) = IsAnswerOf o a
JudgesAnswer o (Err fault) = (limits : Limits) (before : Received) (asked : List Asking) → IsStopFor (client_reasons limits before asked (Opens o)) fault

-- ---- events

-- what is told, if something is
abbrev pub told_by_frame : Option Event → List ClientTold
told_by_frame None = []
told_by_frame (Some e) = client_told_of_event e ∷ []

-- ---- an open channel

-- a client with this agreement has received an ACK, and nothing else
abbrev pub greeted : Agreed → Received
greeted a = record nothing_received { ack = Some a.ack }

-- why the first response is rejected, if it is good: its RequestId
abbrev pub first_reasons : Answer → List (Why × Bool)
first_reasons a = (ours 0x8009_0000, not (a.request == 1)) ∷ []

-- what is kept of a channel that this response opened
pub record IsOpenedWith (limits : Limits) (agreed : Agreed) (a : Answer) (t : Talking) : Type 0 where
  pub agreed_is : t.agreed ≡ agreed
  pub channel_is : t.channel ≡ a.channel
  pub tokens_are : t.tokens.items ≡ a.token ∷ []
  pub newest_is : t.newest ≡ a.token
  pub pending_are : t.pending.items ≡ []
  pub renewal_is : t.renewal ≡ None
  pub next_is : t.next ≡ 2
  pub stands : Stands t.assembler []
  pub last_is : last_number t.assembler ≡ Some a.sequence
  pub octets : octet_limit t.assembler ≡ limits.max_message_size
  pub chunks : chunk_limit t.assembler ≡ limits.max_chunk_count

-- a frame with this content opened a channel, and tells it
pub record IsOpenedBy (limits : Limits) (agreed : Agreed) (c : Content) (t : Talking) : Type 0 where
  pub tells : client_tells (greeted agreed) c ≡ told.Opened t.channel t.newest ∷ []
  pub talks : Talks limits t (after (greeted agreed) c) []
  pub ack_is : (after (greeted agreed) c).ack ≡ Some agreed.ack

-- why an open channel rejects a good response, by what is kept of it
abbrev pub kept_renewal_reasons : Talking → Answer → List (Why × Bool)
kept_renewal_reasons t a =
    (ours 0x807F_0000, not (a.channel == t.channel))
    ∷ (ours 0x8087_0000, is_in a.token t.tokens.items)
    ∷ (ours 0x8088_0000, not (may_follow (last_number t.assembler) a.sequence))
    ∷ (ours 0x8009_0000, not (is_in a.request (listed t.renewal)))
    ∷ []

-- what is kept of a channel whose assembler is in the state after these chunks, with the response
-- to a renewal
pub record IsRenewedWith (old : Talking) (a : Answer) (cs : List Chunk) (new : Talking) : Type 0 where
  pub new_is : new ≡ record old { tokens = new.tokens; newest = a.token; renewal = None; assembler = new.assembler }
  pub tokens_are : new.tokens.items ≡ old.tokens.items ++ a.token ∷ []
  pub stands : Stands new.assembler cs
  pub last_is : last_number new.assembler ≡ Some a.sequence
  pub limits : SameLimits old.assembler new.assembler

-- the same, and its token is told
abbrev pub TellsRenewal : Talking → Answer → List Chunk → Talking → Option Event → Type 0
TellsRenewal old a cs new e = (e ≡ Some (event.Renewed a.token)) × IsRenewedWith old a cs new

-- the channel and the token of a chunk, as far as they may be wrong
abbrev pub chunk_token_reasons : Talking → Chunk → List (Why × Bool)
chunk_token_reasons t c = (ours 0x807F_0000, not (c.channel == t.channel)) ∷ (ours 0x8087_0000, not (is_in c.token t.tokens.items)) ∷ []

-- why a client's channel stops for what an assembler rejects
abbrev pub why_of : AssembleFault → Why
why_of fault = ours (end_faults.fault_code 0x80B9_0000 fault)

-- why its assembler rejects a chunk after these
abbrev pub refused_reasons : Talking → List Chunk → Chunk → List (Why × Bool)
refused_reasons t cs c = map (renamed_reason why_of) (reasons (octet_limit t.assembler) (chunk_limit t.assembler) (last_number t.assembler) cs c)

-- why what is delivered under a RequestId is rejected
abbrev pub unasked_reasons : Talking → ℕ → List (Why × Bool)
unasked_reasons t request = (ours 0x8009_0000, not (is_in request t.pending.items)) ∷ []

-- why an open channel rejects a chunk after these whose channel and token are right
abbrev pub known_reasons : Talking → List Chunk → Chunk → List (Why × Bool)
known_reasons t cs c = refused_reasons t cs c ++ unasked_reasons t c.request

-- why an open channel rejects a chunk after these, by what is kept of it
abbrev pub chunk_reasons : Talking → List Chunk → Chunk → List (Why × Bool)
chunk_reasons t cs c = chunk_token_reasons t c ++ known_reasons t cs c

-- the first of the tokens is before the last occurrence of n, or n does not occur
abbrev pub drops_first : ℕ → List ℕ → Bool
drops_first n [] = false
drops_first n (m ∷ ms) = not (m == n) || is_in n ms

-- the calls that stay pending after a chunk of a request that it ends or not
abbrev pub left_behind : Bool → ℕ → List ℕ → List ℕ
left_behind ending request ids = if ending then filter (λ (id : ℕ). not (id == request)) ids else ids

-- the first of these RequestIds does not occur again
abbrev pub IsFirstOnce : List ℕ → Type 0
IsFirstOnce [] = Unit {0}
IsFirstOnce (id ∷ ids) = is_in id ids ≡ false

-- the calls that stay pending after a chunk
abbrev pub left_pending : Chunk → List ℕ → List ℕ
left_pending c ids = left_behind (ends c) c.request ids

-- what is kept of a channel whose assembler accepted a chunk after these
pub record IsChunkAccepted (old : Talking) (cs : List Chunk) (c : Chunk) (new : Talking) (d : Option Delivered) : Type 0 where
  pub new_is : new ≡ record old { assembler = new.assembler }
  pub stands : Stands new.assembler (cs ++ c ∷ [])
  pub last_is : last_number new.assembler ≡ Some c.sequence
  pub limits : SameLimits old.assembler new.assembler
  pub items_are : given cs c ≡ delivered_items d
  pub parts_are : HasParts d (bodies (gathered cs c))

-- an event is what was delivered, in the same parts
pub record DeliversEvent (d : Option Delivered) (e : Option Event) : Type 0 where
  pub tells : map told_item (delivered_items d) ≡ told_by_frame e
  pub parts : event_parts e ≡ parts_in d

-- what is kept of a channel with what a chunk of this request and token delivered, which it ended
-- or not
pub record IsDeliveredWith (old : Talking) (request token : ℕ) (ending : Bool) (d : Option Delivered) (new : Talking) (e : Option Event) : Type 0 where
  pub new_is : new ≡ record old { tokens = new.tokens; pending = new.pending }
  pub tokens_are : new.tokens.items ≡ from_last token old.tokens.items
  pub pending_are : new.pending.items ≡ left_behind ending request old.pending.items
  pub event_is : DeliversEvent d e

-- what is kept of a channel whose assembler is in the state after these chunks, with one more, and
-- what that tells
pub record IsTakenWith (old : Talking) (cs : List Chunk) (c : Chunk) (new : Talking) (e : Option Event) : Type 0 where
  pub new_is : new ≡ record old { tokens = new.tokens; pending = new.pending; assembler = new.assembler }
  pub tokens_are : new.tokens.items ≡ from_last c.token old.tokens.items
  pub pending_are : new.pending.items ≡ left_pending c old.pending.items
  pub stands : Stands new.assembler (cs ++ c ∷ [])
  pub last_is : last_number new.assembler ≡ Some c.sequence
  pub limits : SameLimits old.assembler new.assembler
  pub tells : map told_item (given cs c) ≡ told_by_frame e
  pub parts : MayEndIn cs (Sends c) (event_parts e)

-- whatever the outcome
abbrev pub any_event : Unit {0} → Type 0
any_event e = Unit {0}

-- ---- what a channel makes of a frame

-- an open channel took a frame with this content, and tells this
pub record ClientTakesFrame (limits : Limits) (before : Received) (asked : List Asking) (c : Content) (new : Talking) (e : Option Event) : Type 0 where
  pub tells : client_tells before c ≡ told_by_frame e
  pub parts : MayEndIn before.messages c (event_parts e)
  pub talks : Talks limits new (after before c) asked
  pub ack_is : (after before c).ack ≡ before.ack

-- a frame with this content was taken, and tells this; the progress of the connection then, and how
-- much it may hold
pub record TookFrame (limits : Limits) (before : Received) (asked : List Asking) (c : Content) (p : Phase) (bound : ℕ) (e : Option Event) : Type 0 where
  pub tells : client_tells before c ≡ told_by_frame e
  pub parts : MayEndIn before.messages c (event_parts e)
  pub phase_is : InPhase limits p (after before c) asked
  pub bound_is : bound ≡ client_bound_behind limits (after before c).ack

-- ---- a fragment

-- the bytes end with the frame of this event
abbrev pub EndsWithEvent : Event → ClientChannel → List Placed → List ℕ → List ClientTold → Type 0
EndsWithEvent e new asks octets before = ComesBy client_side false new.end asks octets before e

-- ---- what is answered

-- the event of a channel that this stops, or the fault of its call
abbrev pub failure_of_step : EndFault → Result ClientEvent ClientTakeFault
failure_of_step (Refused code) = Ok (client_event.Failed code false)
failure_of_step (Peer code) = Ok (client_event.Failed code true)
failure_of_step OutOfMemory = Err take_fault.OutOfMemory
failure_of_step Closed = Err take_fault.Closed

-- the outcome of a call with an event
abbrev pub AnswersEvent : DateTime → Result ClientEvent ClientTakeFault → ClientChannel → List Placed → List ℕ → List ClientTold → Type 0
AnswersEvent moment (Ok e) new asks octets before = TellsOfEvent moment e new asks octets before
AnswersEvent moment (Err take_fault.OutOfMemory) new asks octets before = IsClientDone new
AnswersEvent moment (Err take_fault.Closed) new asks octets before = ⊥

-- an outcome with the number of bytes that were taken
abbrev pub outcome_counted : {A F : Type 0} → ℕ → Result A F → Result (ℕ × A) F
outcome_counted n (Ok a) = Ok (n, a)
outcome_counted n (Err fault) = Err fault
