-- The state of a client's channel after bytes and operations, and the outcome of its operations.
use Rattle.std.specs.Prelude.{◌≡◌, ℕ, ◌≤◌, ◌+◌, ◌*◌, Bool, false, length, List, [], Option, Some, None, MatchOption, Result}
use Rattle.std.specs.List.{AllByRecursion}
use Rattle.ua_builtin.specs.Reasons.{first_reason}
use Rattle.ua_builtin.specs.declared.date_time.DateTime.{DateTime}
use Rattle.ua_frame.specs.declared.ack.Ack.{Ack}
use Rattle.ua_frame.specs.declared.frame.Frame.{Frame}
use Rattle.ua_frame.specs.declared.limits.Limits.{Limits}
use Rattle.ua_frame.specs.Run.{Rules}
use Rattle.ua_chunk.specs.Open.{open_octets}
use Rattle.ua_channel.specs.Asks.{Asking, Placed, asked_in}
use Rattle.ua_channel.specs.ClientAsks.{Talks, ask_reasons, renew_reasons, Calls, IsCalled, JudgesBy, AsksRenewal, closing_octets}
use Rattle.ua_channel.specs.ClientTable.{client_rules}
use Rattle.ua_channel.specs.ClientTold.{ClientTold, Why, peers}
use Rattle.ua_channel.specs.Ends.{Side, EndDone, EndGoes, EndStands, EndStarves, EndStops, EndTells}
use Rattle.ua_channel.specs.ClientEvents.{event_parts, client_told_of_event}
use Rattle.ua_channel.specs.declared.client.event.Event.{Event}
use Rattle.ua_channel.specs.declared.client.rules.ClientRules.{ClientRules}
use Rattle.ua_channel.specs.Received.{Received, received, nothing_received}
use Rattle.ua_channel.specs.declared.client.channel.ClientChannel.{ClientChannel}
use Rattle.ua_channel.specs.declared.client.fault.AskFault.{AskFault}
use Rattle.ua_channel.specs.declared.client.fault.AskFault.TheVariants.{NotOpen}
use Rattle.ua_channel.specs.declared.client.phase.Phase.{Phase}
use Rattle.ua_channel.specs.declared.client.phase.Phase.TheVariants.{Waiting, Agreed, Open, Done}
use Rattle.ua_channel.specs.declared.client.talking.Talking.{Talking}

-- ---- what a channel was made with, and what it sends next

-- the limits of the client
abbrev pub client_limits : ClientChannel → Limits
client_limits x = x.end.rules.limits

-- the URL of the server
abbrev pub url_of : ClientChannel → Option (List ℕ)
url_of x = x.address.url

-- the SequenceNumber that is sent next after the first OPN, whose number is 1
abbrev pub client_next : ClientChannel → ℕ
client_next x = x.end.numbers.next

-- the phase of the channel
abbrev pub phase_of : ClientChannel → Phase
phase_of x = x.end.phase

-- the most bytes that the channel may hold
abbrev pub client_bound : ClientChannel → ℕ
client_bound x = x.end.bound

-- the same channel apart from its state: its limits and its URL
pub record SameClient (a b : ClientChannel) : Type 0 where
  pub limits : client_limits a ≡ client_limits b
  pub url : url_of a ≡ url_of b

-- ---- memory

-- the most bytes that a client with these limits may hold: 8192 before the ACK; then an incomplete
-- frame, of the size that the server sends, and 4 unfinished messages
abbrev pub client_bound_behind : Limits → Option Ack → ℕ
client_bound_behind limits None = 8192
client_bound_behind limits (Some a) = a.send_buffer_size + 4 * limits.max_message_size

-- the bytes that are held: of an incomplete frame, and of the unfinished messages
abbrev pub held_octets : List Frame → List ℕ → ℕ
held_octets frames rest = length rest + open_octets (received frames).messages

-- ---- phases

-- a phase is that of a client with these limits after these bytes and operations
abbrev pub InPhase : Limits → Phase → Received → List Asking → Type 0
InPhase limits Waiting before asked = (before ≡ nothing_received) × (asked ≡ [])
InPhase limits (Agreed a) before asked = (before ≡ record nothing_received { ack = Some a.ack }) × (asked ≡ [])
InPhase limits (Open t) before asked = Talks limits t before asked
InPhase limits Done before asked = ⊥

-- a client, as an end of a connection: frames are judged by the operations, too; none is the last,
-- and the server may reject
abbrev pub client_side : Side ClientRules Phase Event
client_side = record {
  Key = List Placed;
  Told = ClientTold;
  Why = Why;
  rules = λ r asks. client_rules r.limits asks;
  placed = λ asks came. AllByRecursion (λ (a : Placed). a.0 ≤ came) asks;
  holds = λ r asks p frames. InPhase r.limits p (received frames) (asked_in asks);
  bound = λ r frames. client_bound_behind r.limits (received frames).ack;
  done = λ p. p ≡ Done;
  tells = client_told_of_event;
  closes = λ e. false;
  parts = λ e. event_parts (Some e);
  peer = λ code. Some (peers code);
}

-- ---- after bytes and asks

-- the rules of a channel with these operations
abbrev pub client_rules_of : ClientChannel → List Placed → Rules ClientTold Why
client_rules_of x asks = client_rules (client_limits x) asks

-- the state of a channel is that after these operations and bytes: these are the frames of the
-- bytes, and this is the rest
abbrev pub ClientStands : ClientChannel → List Placed → List ℕ → List Frame → List ℕ → Type 0
ClientStands x asks octets frames rest = EndStands client_side x.end asks octets frames rest

-- a call with this body and RequestId between two states of a channel, after these operations and
-- frames
abbrev pub IsCalledBetween : ClientChannel → ClientChannel → List Placed → List Frame → List ℕ → ℕ → List ℕ → Type 0
IsCalledBetween old new asks frames body id octets = IsCalled (received frames) (asked_in asks) (client_next old) body id octets (client_next new)

-- a channel that failed or was closed, and holds nothing
abbrev pub IsClientDone : ClientChannel → Type 0
IsClientDone x = EndDone client_side x.end

-- the channel goes on after these operations and bytes, whose frames told this
abbrev pub ClientGoes : ClientChannel → List Placed → List ℕ → List ClientTold → Type 0
ClientGoes x asks octets told = EndGoes client_side x.end asks octets told

-- a fact of whatever operations and bytes led a channel to its state: of these, of the frames of
-- the bytes, and of the rest, of an incomplete frame
abbrev pub WhateverPassed : ClientChannel → (List Placed → List ℕ → List Frame → List ℕ → Type 0) → Type 0
WhateverPassed x Fact =
    (asks : List Placed) (octets : List ℕ) (frames : List Frame) (rest : List ℕ) → ClientStands x asks octets frames rest → Fact asks octets frames rest

-- a fact of whatever operations and bytes a channel goes on after: of these, and of what the frames
-- told
abbrev pub WhateverWasHeard : ClientChannel → (List Placed → List ℕ → List ClientTold → Type 0) → Type 0
WhateverWasHeard x Fact = (asks : List Placed) (octets : List ℕ) (told : List ClientTold) → ClientGoes x asks octets told → Fact asks octets told

-- the last of the frames of these bytes is the one that tells this, after what the others told, and
-- nothing follows it
abbrev pub ClientGoesTelling : ClientChannel → List Placed → List ℕ → List ClientTold → ClientTold → Type 0
ClientGoesTelling x asks octets told e = EndTells client_side x.end asks octets told e

-- the channel ended after these operations and bytes, whose good frames told this, and what follows
-- them is rejected for this reason
abbrev pub ClientEnded : ClientChannel → List Placed → List ℕ → List ClientTold → Why → Type 0
ClientEnded x asks octets told why = EndStops client_side x.end asks octets told why

-- an allocation failed at the end of these bytes, after the good frames that told this
abbrev pub ClientStarvedAt : ClientChannel → List Placed → List ℕ → List ClientTold → Type 0
ClientStarvedAt x asks octets told = EndStarves client_side x.end asks octets told

-- ---- asks in a phase

-- what runs in a phase, if a channel is open
abbrev pub talking_in : Phase → Option Talking
talking_in (Open t) = Some t
talking_in other = None

-- no channel is open
abbrev pub IsNotOpen : Phase → Type 0
IsNotOpen p = MatchOption (talking_in p) (Unit {0}) (λ (t : Talking). ⊥)

-- why an operation is refused: no channel is open, else the first reason of the open channel
abbrev pub refusal_in : Option Talking → (Talking → List (AskFault × Bool)) → Option AskFault
refusal_in None reasons = Some NotOpen
refusal_in (Some t) reasons = first_reason (reasons t)

-- why a call with this body is refused after this many more calls in this phase
abbrev pub ask_refusal : Phase → ℕ → List ℕ → Option AskFault
ask_refusal p more body = refusal_in (talking_in p) (λ (t : Talking). ask_reasons t more body)

-- the bytes of a call with this body, its RequestId, and the number that is sent next
abbrev pub IsCall : Phase → ℕ → List ℕ → ℕ → List ℕ → ℕ → Type 0
IsCall p number body id out next = MatchOption (talking_in p) ⊥ (λ (t : Talking). Calls t number body id out next)

-- why a renewal is refused in this phase
abbrev pub renew_refusal : Phase → Option AskFault
renew_refusal p = refusal_in (talking_in p) renew_reasons

-- the bytes of a renewal, its RequestId, and the number that is sent next
abbrev pub IsRenewal : Phase → ℕ → DateTime → ℕ → List ℕ → ℕ → Type 0
IsRenewal p number moment id out next = MatchOption (talking_in p) ⊥ (λ (t : Talking). AsksRenewal t number moment id out next)

-- why a channel is not closed in this phase
abbrev pub close_refusal : Phase → Option AskFault
close_refusal p = refusal_in (talking_in p) (λ (t : Talking). [])

-- the bytes of the close
abbrev pub IsClosing : Phase → ℕ → DateTime → List ℕ → Type 0
IsClosing p number moment out = MatchOption (talking_in p) ⊥ (λ (t : Talking). out ≡ closing_octets t number moment)

-- ---- the same of a channel

-- no channel is open
abbrev pub HasNoChannel : ClientChannel → Type 0
HasNoChannel x = IsNotOpen (phase_of x)

-- why a channel refuses a call with this body after this many more calls
abbrev pub call_refused : ClientChannel → ℕ → List ℕ → Option AskFault
call_refused x more body = ask_refusal (phase_of x) more body

-- why a channel refuses a renewal
abbrev pub renewal_refused : ClientChannel → Option AskFault
renewal_refused x = renew_refusal (phase_of x)

-- why a channel refuses to be closed
abbrev pub closing_refused : ClientChannel → Option AskFault
closing_refused x = close_refusal (phase_of x)

-- how a channel judges any body of this length, without allocating
abbrev pub JudgesLength : ClientChannel → ℕ → ℕ → Result (Unit {0}) AskFault → Type 0
JudgesLength x more len result = JudgesBy (call_refused x more) len result

-- the bytes of its call with this body, with this SequenceNumber first; the RequestId, and the
-- number that is sent next
abbrev pub SendsCall : ClientChannel → ℕ → List ℕ → ℕ → List ℕ → ℕ → Type 0
SendsCall x number body id out next = IsCall (phase_of x) number body id out next

-- the bytes of its renewal, with this SequenceNumber; the RequestId, and the number that is sent
-- next
abbrev pub SendsRenewal : ClientChannel → ℕ → DateTime → ℕ → List ℕ → ℕ → Type 0
SendsRenewal x number moment id out next = IsRenewal (phase_of x) number moment id out next

-- the bytes of its close, with this SequenceNumber
abbrev pub SendsClosing : ClientChannel → ℕ → DateTime → List ℕ → Type 0
SendsClosing x number moment out = IsClosing (phase_of x) number moment out
