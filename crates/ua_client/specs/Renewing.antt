-- How a client renews the token of its channel: it sends an OPN, and waits until a further token
-- came (OPC 10000-4, 5.6.2; OPC 10000-6, 6.7.2).
use Rattle.std.specs.Prelude.{◌≡◌, ◌⊎◌, ◌<◌, ◌≤◌, ◌++◌, map, ℕ, Bool, true, false, List, [], ◌∷◌, length, Option, Some, None, Result, Ok, Err}
use Rattle.std.specs.List.{AllByRecursion, filter, list_any}
use Rattle.ua_builtin.specs.Reasons.{first_reason, renamed_reason}
use Rattle.ua_builtin.specs.declared.date_time.DateTime.{DateTime}
use Rattle.ua_chunk.specs.Sequence.{next_number}
use Rattle.ua_channel.specs.Asks.{Placed, asked_in, calls, pending_calls, pending_renewals, renewals}
use Rattle.ua_channel.specs.Asks.Asking.{Renewal}
use Rattle.ua_channel.specs.Client.{ClientGoesTelling, HasNoChannel, SameClient}
use Rattle.ua_channel.specs.ClientAsks.{reasons_of_token}
use Rattle.ua_channel.specs.ClientTokens.{held_tokens, opened_ids}
use Rattle.ua_channel.specs.ClientTold.{ClientTold}
use Rattle.ua_channel.specs.ClientTold.ClientTold.{Agreed, Opened, Answered, GaveUp, Renewed}
use Rattle.ua_channel.specs.Line.{Traffic}
use Rattle.ua_channel_laws.specs.Outgoing.{renewal_by}
use Rattle.ua_channel.specs.Received.{latest}
use Rattle.ua_channel.specs.declared.client.channel.ClientChannel.{ClientChannel}
use Rattle.ua_channel.specs.declared.client.fault.AskFault.{AskFault}
use Rattle.ua_channel.specs.declared.client.fault.AskFault.TheVariants as ask_fault
use Rattle.ua_client.specs.Carried.{IsPart}
use Rattle.ua_client.specs.Hearing.{channel_of_connection, most_reads, MovesConnection, StopsByTraffic}
use Rattle.ua_client.specs.Opening.{is_opened, any_done, WaitsAfter}
use Rattle.ua_client.specs.Sent.{by_channel}
use Rattle.ua_client.specs.ClientPlace.{ClientPlace, StandsAt, id_at, lane_behind}
use Rattle.ua_client.specs.Told.{told_of}
use Rattle.ua_client.specs.declared.connection.Connection.{Connection}
use Rattle.ua_client.specs.declared.fault.ClientFault.{ClientFault}
use Rattle.ua_client.specs.declared.fault.ClientFault.TheVariants as fault

-- ---- between two calls

-- a further token came
abbrev pub is_renewed : ClientTold → Bool
is_renewed (Agreed ack) = false
is_renewed (Opened channel token) = false
is_renewed (Answered id octets) = false
is_renewed (GaveUp id code) = false
is_renewed (Renewed token) = true

-- a state is settled: the channel is open, and every operation is answered: something was told of
-- each call, and no fewer further tokens came than were requested
pub record IsSettled (s : ClientPlace) : Type 0 where
  pub opened : list_any is_opened s.told ≡ true
  pub answered : AllByRecursion (λ (id : ℕ). 0 < length (told_of id s.told)) (calls (asked_in s.asks))
  pub renewed : length (renewals (asked_in s.asks)) ≤ length (filter is_renewed s.told)

-- a channel has a settled state; the channel itself does not keep which
abbrev pub StandsSettled : ClientChannel → Type 0
StandsSettled x = ∥ ((s : ClientPlace) × StandsAt x s × IsSettled s) ∥₁

-- a channel is open, and none of its operations is pending
pub record IsIdle (x : ClientChannel) (s : ClientPlace) : Type 0 where
  pub opened : HasNoChannel x → ⊥
  pub calls_answered : pending_calls s.before.messages (asked_in s.asks) ≡ []
  pub renewals_answered : pending_renewals (opened_ids s.before.openings) (asked_in s.asks) ≡ []

-- ---- why it is not asked

-- why a renewal is refused there, in the order in which it is judged: the client holds 16 tokens,
-- from the last one that the server used to the newest; or all RequestIds were used
abbrev pub renewal_reasons : ClientPlace → List (ClientFault × Bool)
renewal_reasons s = map (renamed_reason by_channel) (reasons_of_token (length (held_tokens s.before)) (id_at s))

-- why it is refused there, if it is
abbrev pub renewal_refusal : ClientPlace → Option ClientFault
renewal_refusal s = first_reason (renewal_reasons s)

-- for which of these reasons a renewal was refused, if for one
abbrev pub refused_by : {A : Type 0} → Result A ClientFault → Option ClientFault
refused_by (Ok done) = None
refused_by (Err fault.TooManyTokens) = Some fault.TooManyTokens
refused_by (Err fault.Exhausted) = Some fault.Exhausted
refused_by (Err other) = None

-- it was refused, for one of these reasons
abbrev pub IsRefusal : {A : Type 0} → Result A ClientFault → Type 0
IsRefusal (Ok done) = ⊥
IsRefusal (Err fault.TooManyTokens) = Unit {0}
IsRefusal (Err fault.Exhausted) = Unit {0}
IsRefusal (Err other) = ⊥

-- the error that results from a refusal of the channel; an idle channel has no other than these
-- three
abbrev pub of_renew_fault : AskFault → ClientFault
of_renew_fault ask_fault.TooManyTokens = fault.TooManyTokens
of_renew_fault ask_fault.Exhausted = fault.Exhausted
of_renew_fault ask_fault.OutOfMemory = fault.OutOfMemory
of_renew_fault other = fault.Closed

-- ---- what is asked

-- the OPN of a client in this state
abbrev pub renewal_at : ClientPlace → DateTime → List ℕ
renewal_at s moment = renewal_by (lane_behind s.before) s.number (id_at s) moment

-- the client's operations after a renewal there, under the next RequestId
abbrev pub asks_renewed : ClientPlace → List Placed
asks_renewed s = s.asks ++ (length s.octets, Renewal (id_at s)) ∷ []

-- ---- what becomes of it

-- a renewal is answered: after these bytes, the last of which is the last of the frame that brought
-- the token, the client has that state
pub record IsRenewed (new : ClientChannel) (s t : ClientPlace) (taken : List ℕ) : Type 0 where
  pub at : StandsAt new t
  pub asks : t.asks ≡ asks_renewed s
  pub octets : t.octets ≡ s.octets ++ taken
  pub number : t.number ≡ next_number s.number
  pub heard : List ClientTold
  pub token : ℕ
  pub none_before : list_any is_renewed heard ≡ false
  pub tells : ClientGoesTelling new t.asks t.octets (s.told ++ heard) (Renewed token)
  pub told : t.told ≡ s.told ++ (heard ++ Renewed token ∷ [])
  -- calls are sent under it
  pub newest : latest (held_tokens t.before) ≡ Some token
  -- if the state was settled, it is settled again
  pub settled : IsSettled s → IsSettled t

-- a renewal that was requested there is not answered
abbrev pub BreaksRenewing : ClientPlace → DateTime → ClientChannel → List ℕ → List ℕ → ClientFault → Type 0
BreaksRenewing s moment new sent taken f = (sent ≡ renewal_at s moment) × WaitsAfter is_renewed any_done (Err f) new (asks_renewed s) (s.octets ++ taken) s.told

-- the outcome of a renewal there: what was sent and taken, and the state of the channel then
abbrev pub RenewsAt : {A : Type 0} → ClientPlace → DateTime → ClientChannel → List ℕ → List ℕ → Result A ClientFault → Type 0
RenewsAt s moment new sent taken (Ok done) = (sent ≡ renewal_at s moment) × ((t : ClientPlace) × IsRenewed new s t taken)
RenewsAt s moment new sent taken (Err fault.Write) = IsPart sent (renewal_at s moment) × (taken ≡ [])
RenewsAt s moment new sent taken (Err fault.OutOfMemory) = ((sent ≡ []) × (taken ≡ [])) ⊎ BreaksRenewing s moment new sent taken fault.OutOfMemory
RenewsAt s moment new sent taken (Err fault.TooManyTokens) = (sent ≡ []) × (taken ≡ [])
RenewsAt s moment new sent taken (Err fault.Exhausted) = (sent ≡ []) × (taken ≡ [])
RenewsAt s moment new sent taken (Err fault.Read) = BreaksRenewing s moment new sent taken fault.Read
RenewsAt s moment new sent taken (Err fault.Ended) = BreaksRenewing s moment new sent taken fault.Ended
RenewsAt s moment new sent taken (Err fault.TooLong) = BreaksRenewing s moment new sent taken fault.TooLong
RenewsAt s moment new sent taken (Err (fault.Peer code)) = BreaksRenewing s moment new sent taken (fault.Peer code)
RenewsAt s moment new sent taken (Err (fault.Refused code)) = BreaksRenewing s moment new sent taken (fault.Refused code)
RenewsAt s moment new sent taken (Err other) = ⊥

-- a renewal of the token, at this time, over a transport
pub record Renews {A : Type 0} (moment : DateTime) (old new : Connection) (before after : Option Traffic) (result : Result A ClientFault) : Type 0 where
  pub sent : List ℕ
  pub moves : MovesConnection old new sent before after
  pub same : SameClient (channel_of_connection old) (channel_of_connection new)
  -- it is refused exactly for the first reason that holds in the state of the client
  pub judged : (s : ClientPlace) → StandsAt (channel_of_connection old) s → refused_by result ≡ renewal_refusal s
  pub answers : (s : ClientPlace) → StandsAt (channel_of_connection old) s → RenewsAt s moment (channel_of_connection new) sent moves.taken result
  pub stops : StopsByTraffic most_reads most_reads moves.got new after result

-- ---- the client after it
