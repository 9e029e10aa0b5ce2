-- What a client does for C: each clause of the calls of `ClientChannel`, over the content of a
-- handle.
use Rattle.std.specs.Prelude.{◌≡◌, ◌⊎◌, ◌<◌, ◌++◌, ◌∷◌, [], ℕ, List, length, true, false, Some, Result, Ok, Err, IfOk, OnOk, OnErr, IsErrOf}
use Rattle.std.specs.List.{concat}
use Rattle.std.specs.declared.alloc.Global.{Global}
use Rattle.std_alloc.specs.declared.vec.Vec.{Vec}
use Rattle.ua_builtin.specs.Reasons.{first_reason}
use Rattle.ua_builtin.specs.declared.date_time.DateTime.{DateTime}
use Rattle.ua_frame.specs.Frames.{frame_octets}
use Rattle.ua_frame.specs.declared.frame.Frame.{Frame}
use Rattle.ua_frame.specs.declared.limits.Limits.{Limits}
use Rattle.ua_channel.specs.Asks.{Placed, asked_in}
use Rattle.ua_channel.specs.Asks.Asking.{Call, Renewal}
use Rattle.ua_channel.specs.Client.{ClientStands, ClientGoes, IsClientDone, SameClient, client_limits, url_of, client_next}
use Rattle.ua_channel.specs.Client.{client_bound, call_refused, renewal_refused, closing_refused, SendsCall, SendsRenewal, SendsClosing}
use Rattle.ua_channel.specs.ClientAnswers.{ClientAnswers, ClientProgress}
use Rattle.ua_channel.specs.ClientAsks.{AnswersFor, IsCalled, IsCloseWith, IsRenewalWith, call_reasons, closing_reasons, renewing_reasons}
use Rattle.ua_channel.specs.ClientSends.{hello_frame, hello_to}
use Rattle.ua_channel.specs.ClientTold.{ClientTold as ToldOfFrame}
use Rattle.ua_channel.specs.Received.{received}
use Rattle.ua_channel.specs.declared.client.channel.ClientChannel.{ClientChannel}
use Rattle.ua_channel.specs.declared.client.event.ClientEvent.{ClientEvent}
use Rattle.ua_channel.specs.declared.client.event.ClientEvent.TheVariants as event
use Rattle.ua_channel.specs.declared.client.fault.AskFault.{AskFault}
use Rattle.ua_channel.specs.declared.client.fault.AskFault.TheVariants as ask_fault
use Rattle.ua_channel.specs.declared.client.fault.ClientTakeFault.{ClientTakeFault}
use Rattle.ua_channel.specs.declared.client.fault.ClientTakeFault.TheVariants as take_fault
use Rattle.ua_c.specs.Handled.{OfClient, WhereNone}
use Rattle.ua_c.specs.Status.{ok, no_memory, closed, refused, not_open, too_many_pending, renew_pending, too_many_tokens, exhausted, too_large, empty}
use Rattle.ua_c.specs.declared.holding.Holding.{Holding}
use Rattle.ua_c.specs.declared.holding.Machine.TheVariants as machine
use Rattle.ua_c.specs.declared.told.Told.{Told}

-- ---- what of a channel's answers C is told

-- what is told of bytes that were taken
abbrev pub told_of_taken : ℕ → ClientEvent → Told
told_of_taken taken event.NeedMore = record { status = ok; taken = taken; event = 0; id = 0; code = 0 }
told_of_taken taken (event.Send octets) = record { status = ok; taken = taken; event = 1; id = 0; code = 0 }
told_of_taken taken event.Open = record { status = ok; taken = taken; event = 2; id = 0; code = 0 }
told_of_taken taken (event.Answered id message) = record { status = ok; taken = taken; event = 3; id = id; code = 0 }
told_of_taken taken (event.Aborted id code) = record { status = ok; taken = taken; event = 4; id = id; code = code.code }
told_of_taken taken (event.Renewed token) = record { status = ok; taken = taken; event = 5; id = token; code = 0 }
told_of_taken taken (event.Failed code false) = record { status = refused; taken = taken; event = 6; id = 0; code = code.code }
told_of_taken taken (event.Failed code true) = record { status = refused; taken = taken; event = 7; id = 0; code = code.code }

-- the bytes that then wait: those that are to be sent, or those of a reply
abbrev pub waiting_of : ClientEvent → List ℕ → List ℕ
waiting_of event.NeedMore before = before
waiting_of (event.Send octets) before = octets.items
waiting_of event.Open before = before
waiting_of (event.Answered id message) before = concat message
waiting_of (event.Aborted id code) before = before
waiting_of (event.Renewed token) before = before
waiting_of (event.Failed code peer) before = before

abbrev pub ShowsEvent : ℕ → ClientEvent → Told → List ℕ → List ℕ → Type 0
ShowsEvent taken event told before waiting = (told ≡ told_of_taken taken event) × (waiting ≡ waiting_of event before)

-- only a status
abbrev pub status_told : ℕ → Told
status_told status = record { status = status; taken = 0; event = 0; id = 0; code = 0 }

-- what C is told of an outcome of `ClientChannel::take`, and which bytes then wait
abbrev pub ShowsTake : Result (ℕ × ClientEvent) ClientTakeFault → Told → List ℕ → List ℕ → Type 0
ShowsTake (Ok (taken, event)) told before waiting = ShowsEvent taken event told before waiting
ShowsTake (Err take_fault.Closed) told before waiting = (told ≡ status_told closed) × (waiting ≡ before)
ShowsTake (Err take_fault.OutOfMemory) told before waiting = (told ≡ status_told no_memory) × (waiting ≡ before)

-- why nothing was sent
abbrev pub status_for : AskFault → ℕ
status_for ask_fault.NotOpen = not_open
status_for ask_fault.TooManyPending = too_many_pending
status_for ask_fault.RenewPending = renew_pending
status_for ask_fault.TooManyTokens = too_many_tokens
status_for ask_fault.Exhausted = exhausted
status_for ask_fault.RequestTooLarge = too_large
status_for ask_fault.OutOfMemory = no_memory

-- what C is told of an outcome of `ClientChannel::ask` and `ClientChannel::renew`, and which bytes
-- then wait
abbrev pub ShowsAsk : Result (ℕ × Vec ℕ Global) AskFault → ℕ → ℕ → List ℕ → List ℕ → Type 0
ShowsAsk (Ok (id, octets)) status told before waiting = (status ≡ ok) × (told ≡ id) × (waiting ≡ octets.items)
ShowsAsk (Err fault) status told before waiting = (status ≡ status_for fault) × (told ≡ 0) × (waiting ≡ before)

-- the same of `ClientChannel::close`
abbrev pub ShowsClose : Result (Vec ℕ Global) AskFault → ℕ → List ℕ → List ℕ → Type 0
ShowsClose (Ok octets) status before waiting = (status ≡ ok) × (waiting ≡ octets.items)
ShowsClose (Err fault) status before waiting = (status ≡ status_for fault) × (waiting ≡ before)

-- ---- a client

-- what `ClientChannel::new` ensures of the channel that it makes
pub record IsNewClient (limits : Limits) (url : List ℕ) (client : ClientChannel) : Type 0 where
  pub stands : ClientStands client [] [] [] []
  pub limits_is : client_limits client ≡ limits
  pub url_is : url_of client ≡ Some url
  pub next_is : client_next client ≡ 2

-- what `ClientChannel::take` ensures of its outcome for a fragment at a time, and of the channel
-- that it leaves
pub record TakesAs (client : ClientChannel) (piece : List ℕ) (moment : DateTime) (answer : Result (ℕ × ClientEvent) ClientTakeFault)
    (new : ClientChannel) : Type 0 where
  pub answers : (asks : List Placed) (octets : List ℕ) (told : List ToldOfFrame) → ClientGoes client asks octets told
      → ClientAnswers moment piece answer new asks octets told
  pub progress : ClientProgress piece answer
  pub closed : IsClientDone client → (answer ≡ Err take_fault.Closed) × (new ≡ client)
  pub starved : IsErrOf answer take_fault.OutOfMemory → client_bound new ≡ client_bound client
  pub same : SameClient client new
  pub next : client_next new ≡ client_next client

-- what `ClientChannel::ask` ensures
pub record AsksAs (client : ClientChannel) (body : List ℕ) (answer : Result (ℕ × Vec ℕ Global) AskFault) (new : ClientChannel) : Type 0 where
  pub answers : AnswersFor (call_refused client 0 body) answer
  pub sent : IfOk answer (λ r. SendsCall client (client_next client) body r.0 r.1.items (client_next new))
  pub refuses : (asks : List Placed) (octets : List ℕ) (frames : List Frame) (rest : List ℕ) → ClientStands client asks octets frames rest
      → AnswersFor (first_reason (call_reasons (received frames) (asked_in asks) 0 body)) answer
  pub calls : (asks : List Placed) (octets : List ℕ) (frames : List Frame) (rest : List ℕ) → ClientStands client asks octets frames rest
      → IfOk answer (λ r. IsCalled (received frames) (asked_in asks) (client_next client) body r.0 r.1.items (client_next new))
  pub stands : (asks : List Placed) (octets : List ℕ) (frames : List Frame) (rest : List ℕ) → ClientStands client asks octets frames rest
      → IfOk answer (λ r. ClientStands new (asks ++ (length octets, Call r.0) ∷ []) octets frames rest)
  pub kept : (asks : List Placed) (octets : List ℕ) (frames : List Frame) (rest : List ℕ) → ClientStands client asks octets frames rest
      → OnErr answer (ClientStands new asks octets frames rest)
  pub next : OnErr answer (client_next new ≡ client_next client)
  pub done : IsClientDone client → (answer ≡ Err ask_fault.NotOpen) × (new ≡ client)
  pub same : SameClient client new
  pub bound : client_bound new ≡ client_bound client

-- what `ClientChannel::renew` ensures
pub record RenewsAs (client : ClientChannel) (moment : DateTime) (answer : Result (ℕ × Vec ℕ Global) AskFault) (new : ClientChannel) : Type 0 where
  pub answers : AnswersFor (renewal_refused client) answer
  pub sent : IfOk answer (λ r. SendsRenewal client (client_next client) moment r.0 r.1.items (client_next new))
  pub refuses : (asks : List Placed) (octets : List ℕ) (frames : List Frame) (rest : List ℕ) → ClientStands client asks octets frames rest
      → AnswersFor (first_reason (renewing_reasons (received frames) (asked_in asks))) answer
  pub renews : (asks : List Placed) (octets : List ℕ) (frames : List Frame) (rest : List ℕ) → ClientStands client asks octets frames rest
      → IfOk answer (λ r. IsRenewalWith (received frames) (asked_in asks) (client_next client) moment r.0 r.1.items (client_next new))
  pub stands : (asks : List Placed) (octets : List ℕ) (frames : List Frame) (rest : List ℕ) → ClientStands client asks octets frames rest
      → IfOk answer (λ r. ClientStands new (asks ++ (length octets, Renewal r.0) ∷ []) octets frames rest)
  pub unchanged : OnErr answer (new ≡ client)
  pub same : SameClient client new
  pub bound : client_bound new ≡ client_bound client

-- what `ClientChannel::close` ensures
pub record ClosesAs (client : ClientChannel) (moment : DateTime) (answer : Result (Vec ℕ Global) AskFault) (new : ClientChannel) : Type 0 where
  pub answers : AnswersFor (closing_refused client) answer
  pub sent : IfOk answer (λ out. SendsClosing client (client_next client) moment out.items)
  pub refuses : (asks : List Placed) (octets : List ℕ) (frames : List Frame) (rest : List ℕ) → ClientStands client asks octets frames rest
      → AnswersFor (first_reason (closing_reasons (received frames))) answer
  pub closes : (asks : List Placed) (octets : List ℕ) (frames : List Frame) (rest : List ℕ) → ClientStands client asks octets frames rest
      → IfOk answer (λ out. IsCloseWith (received frames) (asked_in asks) (client_next client) moment out.items)
  pub done : OnOk answer (IsClientDone new)
  pub unchanged : OnErr answer (new ≡ client)
  pub same : SameClient client new
  pub bound : client_bound new ≡ client_bound client

-- ---- what a handle holds

-- a client holds this channel after a call of it
abbrev pub HoldsClient : ClientChannel → Holding → Type 0
HoldsClient client new = new.machine ≡ machine.Client client

-- the HEL of the client waits, or an allocation failed and nothing changed
abbrev pub HelloBy : ClientChannel → Holding → Holding → ℕ → Type 0
HelloBy client old new status =
    ((status ≡ ok) × HoldsClient client new × (new.waiting ≡ frame_octets (hello_frame (hello_to (client_limits client) (url_of client)))))
    ⊎ ((status ≡ no_memory) × (new ≡ old))

-- one `take` of a client: the outcome is one of `ClientChannel::take`, and C is told exactly that
pub record TakesClient (old : ClientChannel) (new : Holding) (piece : List ℕ) (moment : DateTime) (told : Told) : Type 0 where
  pub answer : Result (ℕ × ClientEvent) ClientTakeFault
  pub client : ClientChannel
  pub holds : HoldsClient client new
  pub takes : TakesAs old piece moment answer client
  pub shown : ShowsTake answer told [] new.waiting

-- one call
pub record AsksClient (old : ClientChannel) (new : Holding) (body : List ℕ) (status id : ℕ) : Type 0 where
  pub answer : Result (ℕ × Vec ℕ Global) AskFault
  pub client : ClientChannel
  pub holds : HoldsClient client new
  pub asks : AsksAs old body answer client
  pub shown : ShowsAsk answer status id [] new.waiting

-- a call with an empty body is refused
abbrev pub AsksBody : ClientChannel → Holding → Holding → List ℕ → ℕ → ℕ → Type 0
AsksBody client old new body status id = (length body ≡ 0 → (status ≡ empty) × (id ≡ 0) × (new ≡ old))
    × (0 < length body → AsksClient client new body status id)

-- one renewal
pub record RenewsClient (old : ClientChannel) (new : Holding) (moment : DateTime) (status id : ℕ) : Type 0 where
  pub answer : Result (ℕ × Vec ℕ Global) AskFault
  pub client : ClientChannel
  pub holds : HoldsClient client new
  pub renews : RenewsAs old moment answer client
  pub shown : ShowsAsk answer status id [] new.waiting

-- one close
pub record ClosesHeldClient (old : ClientChannel) (new : Holding) (moment : DateTime) (status : ℕ) : Type 0 where
  pub answer : Result (Vec ℕ Global) AskFault
  pub client : ClientChannel
  pub holds : HoldsClient client new
  pub closes : ClosesAs old moment answer client
  pub shown : ShowsClose answer status [] new.waiting

-- what each call does with the content of a handle
abbrev pub HelloMachine : Holding → Holding → ℕ → Type 0
HelloMachine old new status = OfClient old.machine old new (λ why. status ≡ why)
    (λ client. WhereNone old new (λ why. status ≡ why) (HelloBy client old new status))

abbrev pub TakesMachine : Holding → Holding → List ℕ → DateTime → Told → Type 0
TakesMachine old new piece moment told = OfClient old.machine old new (λ why. told ≡ status_told why)
    (λ client. WhereNone old new (λ why. told ≡ status_told why) (TakesClient client new piece moment told))

abbrev pub AsksMachine : Holding → Holding → List ℕ → ℕ → ℕ → Type 0
AsksMachine old new body status id = OfClient old.machine old new (λ why. (status ≡ why) × (id ≡ 0))
    (λ client. WhereNone old new (λ why. (status ≡ why) × (id ≡ 0)) (AsksBody client old new body status id))

abbrev pub RenewsMachine : Holding → Holding → DateTime → ℕ → ℕ → Type 0
RenewsMachine old new moment status id = OfClient old.machine old new (λ why. (status ≡ why) × (id ≡ 0))
    (λ client. WhereNone old new (λ why. (status ≡ why) × (id ≡ 0)) (RenewsClient client new moment status id))

abbrev pub ClosesMachine : Holding → Holding → DateTime → ℕ → Type 0
ClosesMachine old new moment status = OfClient old.machine old new (λ why. status ≡ why)
    (λ client. WhereNone old new (λ why. status ≡ why) (ClosesHeldClient client new moment status))
