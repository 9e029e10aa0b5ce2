-- The outcomes of a client's calls: groups of 64, the last of which may have fewer, each judged as
-- a whole, written and then answered.
use Rattle.std.specs.Prelude.{◌≡◌, ◌⊎◌, ◌+◌, ◌<◌, ◌≤◌, ◌++◌, ℕ, List, [], ◌∷◌, map, length, is_none, true, false, Option, Some, None, Result, Ok, Err}
use Rattle.std.specs.List.{AllByRecursion, list_any}
use Rattle.ua_wire.specs.Format.{Extends}
use Rattle.ua_builtin.specs.Reasons.{first_reason}
use Rattle.ua_frame.specs.Frames.{IsSized, frames_octets}
use Rattle.ua_frame.specs.declared.frame.Frame.{Frame}
use Rattle.ua_channel.specs.Asks.{Placed}
use Rattle.ua_channel.specs.Client.{ClientGoes, ClientGoesTelling, ClientEnded, SameClient}
use Rattle.ua_channel.specs.ClientTold.{ClientTold, Why, ours, peers}
use Rattle.ua_channel.specs.Line.{Traffic}
use Rattle.ua_channel.specs.declared.client.channel.ClientChannel.{ClientChannel}
use Rattle.ua_services.specs.declared.request.Request.{Request}
use Rattle.ua_client.specs.Hearing.{channel_of_connection, most_reads, KeepsClient, MovesConnection, Starved, StopsByTraffic}
use Rattle.ua_client.specs.Renewing.{IsSettled}
use Rattle.ua_client.specs.ClientPlace.{ClientPlace, StandsAt, id_at, lane_behind}
use Rattle.ua_client.specs.Told.{told_of}
use Rattle.ua_client.specs.Replies.{AreAwaited, AreReplies, AreSlots, IsFront, IsUntoldBefore, LacksAnswer, IsMisanswered, front_of}
use Rattle.ua_client.specs.Sent.{calls_octets, numbers_behind, calls_at, bodies_of, group_reasons}
use Rattle.ua_client.specs.declared.connection.Connection.{Connection}
use Rattle.ua_client.specs.declared.fault.ClientFault.{ClientFault}
use Rattle.ua_client.specs.declared.fault.ClientFault.TheVariants as fault
use Rattle.ua_client.specs.declared.reply.Reply.{Reply}

-- ---- what is asked

-- the client's operations after these requests are called there
abbrev pub asked_at : ClientPlace → List Request → List Placed
asked_at s requests = s.asks ++ calls_at (length s.octets) (id_at s) (bodies_of requests)

-- the chunks of the bodies of requests that are called there
abbrev pub sent_at : ClientPlace → List Request → List ℕ
sent_at s requests = calls_octets (lane_behind s.before) s.number (id_at s) (bodies_of requests)

-- why a group of requests is not called there, if it is not: the first reason against the first of
-- them that has one
abbrev pub refusal_at : ClientPlace → List Request → Option ClientFault
refusal_at s requests = first_reason (group_reasons s.before.ack (id_at s) requests)

-- a group of requests was called there, as nothing was against it, and its chunks were sent
abbrev pub IsSentAt : List Request → ClientPlace → List ℕ → Type 0
IsSentAt requests s sent = (refusal_at s requests ≡ None) × (sent ≡ sent_at s requests)

-- ---- waiting for replies

-- after these bytes a client with these operations goes on, and more was told
abbrev pub ClientGoesOn : ClientChannel → List Placed → List ℕ → List ClientTold → (List ClientTold → Type 0) → Type 0
ClientGoesOn x asks octets told P = (heard : List ClientTold) × ClientGoes x asks octets (told ++ heard) × P (told ++ heard)

-- after these bytes the connection of a client with these operations ended, for this reason, and
-- more was told before
abbrev pub EndsOn : ClientChannel → List Placed → List ℕ → List ClientTold → Why → (List ClientTold → Type 0) → Type 0
EndsOn x asks octets told why P = (heard : List ClientTold) × ClientEnded x asks octets (told ++ heard) why × P (told ++ heard)

-- an allocation failed after these bytes, whose frames told this: in the channel, or for what it
-- told
abbrev pub LacksMemory : ClientChannel → List Placed → List ℕ → List ClientTold → Type 0
LacksMemory x asks octets told = Starved x asks octets told ⊎ ClientGoes x asks octets told

-- bytes are whole frames, each of a size that a header can name, followed by nothing
abbrev pub AreFrames : List ℕ → Type 0
AreFrames octets = (frames : List Frame) × (octets ≡ frames_octets frames) × AllByRecursion IsSized frames

-- the last that was told is the last expected reply to these requests, and nothing follows its
-- frame
pub record LastCame (x : ClientChannel) (requests : List Request) (id : ℕ) (asks : List Placed) (octets : List ℕ) (told : List ClientTold) : Type 0 where
  pub before : List ClientTold
  pub last : ClientTold
  pub told_is : told ≡ before ++ last ∷ []
  pub awaited : AreAwaited requests id before
  pub tells : ClientGoesTelling x asks octets before last

-- the outcome for the replies to calls of these requests, whose RequestIds are counted from the
-- first: all came, or a prefix of them
abbrev pub CollectsAfter : {A : Type 0} → List (Option Reply) → List Request → ℕ → Connection → Option Traffic → Result A ClientFault → List Placed → List ℕ
    → List ClientTold → Type 0
CollectsAfter slots requests first new after (Ok found) asks octets told =
    ClientGoesOn (channel_of_connection new) asks octets told (λ all. AreSlots requests first all slots × (list_any is_none slots ≡ false)
    × LastCame (channel_of_connection new) requests first asks octets all)
CollectsAfter slots requests first new after (Err (fault.Peer code)) asks octets told = EndsOn (channel_of_connection new) asks octets told (peers code.code)
    (λ all. AreSlots requests first all slots × (list_any is_none slots ≡ true))
CollectsAfter slots requests first new after (Err (fault.Refused code)) asks octets told = EndsOn (channel_of_connection new) asks octets told (ours code.code)
    (λ all. AreSlots requests first all slots × (list_any is_none slots ≡ true))
CollectsAfter slots requests first new after (Err fault.Ended) asks octets told =
    ClientGoesOn (channel_of_connection new) asks octets told (λ all. AreSlots requests first all slots × (list_any is_none slots ≡ true))
CollectsAfter slots requests first new after (Err fault.Read) asks octets told =
    ClientGoesOn (channel_of_connection new) asks octets told (λ all. AreSlots requests first all slots × (list_any is_none slots ≡ true))
CollectsAfter slots requests first new after (Err fault.TooLong) asks octets told =
    ClientGoesOn (channel_of_connection new) asks octets told (λ all. AreSlots requests first all slots × (list_any is_none slots ≡ true))
CollectsAfter slots requests first new after (Err fault.UnknownResponse) asks octets told =
    ClientGoesOn (channel_of_connection new) asks octets told (λ all. IsMisanswered requests first all
    × IsFront LacksAnswer (front_of slots) requests first all)
CollectsAfter slots requests first new after (Err fault.OutOfMemory) asks octets told = (heard : List ClientTold)
    × LacksMemory (channel_of_connection new) asks octets (told ++ heard) × IsFront IsUntoldBefore (front_of slots) requests first (told ++ heard)
CollectsAfter slots requests first new after (Err other) asks octets told = ⊥

-- no reply to any of these
abbrev pub none_for : List Request → List (Option Reply)
none_for requests = map (λ (r : Request). None) requests

-- nothing was told yet of calls of these requests, whose RequestIds are counted from the first
abbrev pub AreUntold : List Request → ℕ → List ClientTold → Type 0
AreUntold [] id told = Unit {0}
AreUntold (request ∷ requests) id told = (told_of id told ≡ []) × AreUntold requests (id + 1) told

-- the bytes up to the last expected reply, or up to a fault
pub record Collects {A : Type 0} (slots : List (Option Reply)) (requests : List Request) (first : ℕ) (old new : Connection) (before after : Option Traffic)
    (reads left : ℕ) (result : Result A ClientFault) : Type 0 where
  pub moves : MovesConnection old new [] before after
  pub keeps : KeepsClient old new
  pub answers : (asks : List Placed) (octets : List ℕ) (told : List ClientTold) → ClientGoes (channel_of_connection old) asks octets told
      → AreUntold requests first told
      → CollectsAfter slots requests first new after result asks (octets ++ moves.taken) told
  pub stops : StopsByTraffic reads left moves.got new after result

-- ---- a group of calls

-- a group of calls is answered, against which there was nothing: after these bytes a client in this
-- state is in that state, and these are the replies
pub record Answered (requests : List Request) (s t : ClientPlace) (taken : List ℕ) (replies : List Reply) : Type 0 where
  pub judged : refusal_at s requests ≡ None
  pub asks : t.asks ≡ asked_at s requests
  pub octets : t.octets ≡ s.octets ++ taken
  -- nothing was taken after the frame of the last reply
  pub whole : AreFrames t.octets
  pub heard : List ClientTold
  pub told : t.told ≡ s.told ++ heard
  pub number : t.number ≡ numbers_behind (lane_behind s.before) s.number (bodies_of requests)
  pub replies_are : AreReplies requests (id_at s) t.told replies

-- a group of calls is refused here, or is not answered
abbrev pub BreaksAt : List Request → ClientPlace → Connection → List ℕ → List ℕ → ClientFault → Type 0
BreaksAt requests s new sent taken (fault.Peer code) = IsSentAt requests s sent × EndsOn (channel_of_connection new) (asked_at s requests)
    (s.octets ++ taken) s.told
    (peers code.code) (AreAwaited requests (id_at s))
BreaksAt requests s new sent taken (fault.Refused code) = IsSentAt requests s sent × EndsOn (channel_of_connection new) (asked_at s requests)
    (s.octets ++ taken) s.told
    (ours code.code) (AreAwaited requests (id_at s))
BreaksAt requests s new sent taken fault.Ended = IsSentAt requests s sent × ClientGoesOn (channel_of_connection new) (asked_at s requests)
    (s.octets ++ taken) s.told
    (AreAwaited requests (id_at s))
BreaksAt requests s new sent taken fault.Read = IsSentAt requests s sent × ClientGoesOn (channel_of_connection new) (asked_at s requests)
    (s.octets ++ taken) s.told
    (AreAwaited requests (id_at s))
BreaksAt requests s new sent taken fault.TooLong = IsSentAt requests s sent × ClientGoesOn (channel_of_connection new) (asked_at s requests)
    (s.octets ++ taken) s.told
    (AreAwaited requests (id_at s))
BreaksAt requests s new sent taken fault.UnknownResponse = IsSentAt requests s sent × ClientGoesOn (channel_of_connection new) (asked_at s requests)
    (s.octets ++ taken) s.told (IsMisanswered requests (id_at s))
BreaksAt requests s new sent taken fault.Write = (refusal_at s requests ≡ None) × Extends sent (sent_at s requests) × (taken ≡ [])
    × (length sent < length (sent_at s requests))
BreaksAt requests s new sent taken fault.OutOfMemory =
    ((sent ≡ []) × (taken ≡ []))
    ⊎ (IsSentAt requests s sent
    × ((heard : List ClientTold) × LacksMemory (channel_of_connection new) (asked_at s requests) (s.octets ++ taken) (s.told ++ heard)))
BreaksAt requests s new sent taken fault.TooLarge = (sent ≡ []) × (taken ≡ []) × StandsAt (channel_of_connection new) s
    × (refusal_at s requests ≡ Some fault.TooLarge)
BreaksAt requests s new sent taken fault.NotWritable = (sent ≡ []) × (taken ≡ []) × StandsAt (channel_of_connection new) s
    × (refusal_at s requests ≡ Some fault.NotWritable)
BreaksAt requests s new sent taken fault.Exhausted = (sent ≡ []) × (taken ≡ []) × StandsAt (channel_of_connection new) s
    × (refusal_at s requests ≡ Some fault.Exhausted)
BreaksAt requests s new sent taken other = ⊥

-- ---- groups of calls, one after another

-- after a group of calls a channel of this client has that state, in which the last reply came
pub record ClientStandsBehind (client x : ClientChannel) (requests : List Request) (s t : ClientPlace) : Type 0 where
  pub same : SameClient x client
  pub at : StandsAt x t
  pub came : LastCame x requests (id_at s) t.asks t.octets t.told

-- groups of calls of a client are answered, each called in the state that those before it left, so
-- that its channel has a state after each: what was sent and taken, and the replies
pub data Rounds (client : ClientChannel) (s : ClientPlace) : List (List Request) → ClientPlace → List ℕ → List ℕ → List Reply → Type 0 where
  NoRound : Rounds client s [] s [] [] []
  OneRound : {groups : List (List Request)} {m t : ClientPlace} {sent taken part : List ℕ} {replies added : List Reply} (group : List Request)
      (x : ClientChannel)
      → Rounds client s groups m sent taken replies → ClientStandsBehind client x group m t → Answered group m t part added
      → Rounds client s (groups ++ group ∷ []) t (sent ++ sent_at m group) (taken ++ part) (replies ++ added)

-- ---- all calls

-- the requests of groups, in order
abbrev pub all_of : List (List Request) → List Request
all_of [] = []
all_of (group ∷ groups) = group ++ all_of groups

-- each group has a call and at most 64, and each but the last exactly 64
abbrev pub AreGroups : List (List Request) → Type 0
AreGroups [] = Unit {0}
AreGroups (group ∷ groups) = (0 < length group) × (length group ≤ 64) × (0 < length groups → length group ≡ 64) × AreGroups groups

-- requests are answered in groups
pub record AnsweredAll (requests : List Request) (s : ClientPlace) (x : ClientChannel) (sent taken : List ℕ) (replies : List Reply) : Type 0 where
  pub groups : List (List Request)
  pub parts : requests ≡ all_of groups
  pub sized : AreGroups groups
  pub behind : ClientPlace
  pub at : StandsAt x behind
  -- if the state was settled, it is settled again
  pub settled : IsSettled s → IsSettled behind
  pub rounds : Rounds x s groups behind sent taken replies

-- after groups that are answered, the next one is not
pub record BrokenAll (requests : List Request) (s : ClientPlace) (new : Connection) (sent taken : List ℕ) (f : ClientFault) : Type 0 where
  pub groups : List (List Request)
  pub group : List Request
  pub others : List Request
  pub parts : requests ≡ all_of groups ++ (group ++ others)
  pub sized : AreGroups (groups ++ group ∷ [])
  -- if more requests follow it, it has exactly 64
  pub full : 0 < length others → length group ≡ 64
  pub behind : ClientPlace
  pub settled : IsSettled s → IsSettled behind
  pub sent_before : List ℕ
  pub sent_then : List ℕ
  pub sent_parts : sent ≡ sent_before ++ sent_then
  pub taken_before : List ℕ
  pub taken_then : List ℕ
  pub taken_parts : taken ≡ taken_before ++ taken_then
  pub replies : List Reply
  pub rounds : Rounds (channel_of_connection new) s groups behind sent_before taken_before replies
  pub breaks : BreaksAt group behind new sent_then taken_then f

-- the outcome of requests that are called there
abbrev pub CallsAllAt : {A : Type 0} → (A → List Reply) → List Request → ClientPlace → Connection → List ℕ → List ℕ → Result A ClientFault → Type 0
CallsAllAt view requests s new sent taken (Ok found) = AnsweredAll requests s (channel_of_connection new) sent taken (view found)
CallsAllAt view requests s new sent taken (Err f) = BrokenAll requests s new sent taken f

-- requests that are called in groups
pub record CallsAll {A : Type 0} (view : A → List Reply) (requests : List Request) (old new : Connection) (before after : Option Traffic)
    (result : Result A ClientFault) : Type 0 where
  pub sent : List ℕ
  pub moves : MovesConnection old new sent before after
  pub same : SameClient (channel_of_connection old) (channel_of_connection new)
  pub answers : (s : ClientPlace) → StandsAt (channel_of_connection old) s → CallsAllAt view requests s new sent moves.taken result
  pub stops : StopsByTraffic most_reads most_reads moves.got new after result
