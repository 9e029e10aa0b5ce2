-- The replies that are kept of calls that are not all answered, and the call that the fault names.
use Rattle.std.specs.Prelude.{◌≡◌, ◌⊎◌, ◌+◌, ℕ, List, [], ◌++◌, length, take, Option, Some, None, Result, Ok, Err}
use Rattle.ua_channel.specs.Client.{SameClient}
use Rattle.ua_channel.specs.ClientTold.{ClientTold, ours, peers}
use Rattle.ua_channel.specs.Line.{Traffic}
use Rattle.ua_services.specs.declared.request.Request.{Request}
use Rattle.ua_client.specs.Calls.{Answered, AnsweredAll, BreaksAt, BrokenAll, EndsOn, ClientGoesOn}
use Rattle.ua_client.specs.Calls.{LacksMemory, LastCame, all_of, asked_at, refusal_at, sent_at}
use Rattle.ua_client.specs.Hearing.{channel_of_connection, fault_alone, most_reads, MovesConnection, StopsByTraffic}
use Rattle.ua_client.specs.Renewing.{IsIdle}
use Rattle.ua_client.specs.Replies.{IsFront, IsUntold, IsUntoldBefore, LacksAnswer}
use Rattle.ua_client.specs.ClientPlace.{ClientPlace, StandsAt, id_at}
use Rattle.ua_client.specs.declared.connection.Connection.{Connection}
use Rattle.ua_client.specs.declared.fault.CallsFault.{CallsFault}
use Rattle.ua_client.specs.declared.fault.ClientFault.{ClientFault}
use Rattle.ua_client.specs.declared.fault.ClientFault.TheVariants as fault
use Rattle.ua_client.specs.declared.reply.Reply.{Reply}

-- ---- the request that a fault names

-- a client is closed, and the fault names this request
abbrev pub closed_at_request : ℕ → CallsFault
closed_at_request n = record { request = n; fault = fault.Closed }

-- a fault as one that names this request
abbrev pub naming_request : {A : Type 0} → ℕ → Result A ClientFault → Result A CallsFault
naming_request n (Ok found) = Ok found
naming_request n (Err f) = Err (record { request = n; fault = f })

-- a group is refused there for its request at this place: there is no reason against those before
-- it, and this is the first against it
abbrev pub IsGroupRefusedFor : List Request → ClientPlace → ClientFault → ℕ → Type 0
IsGroupRefusedFor requests s f n = (refusal_at s (take n requests) ≡ None) × (refusal_at s (take (n + 1) requests) ≡ Some f)

-- ---- a group of calls

-- which replies are kept of a group that is not answered, and which of its requests is named: those
-- that came up to the first that is missing, which is named; none of a group that is refused or not
-- written, and named is the request for which it is refused, else the first
abbrev pub KeepsRepliesAt : List Request → ClientPlace → Connection → List ℕ → ClientFault → ℕ → List Reply → Type 0
KeepsRepliesAt requests s new taken (fault.Peer code) n kept = (n ≡ length kept) × EndsOn (channel_of_connection new) (asked_at s requests)
    (s.octets ++ taken) s.told
    (peers code.code) (IsFront IsUntold kept requests (id_at s))
KeepsRepliesAt requests s new taken (fault.Refused code) n kept = (n ≡ length kept) × EndsOn (channel_of_connection new) (asked_at s requests)
    (s.octets ++ taken) s.told
    (ours code.code) (IsFront IsUntold kept requests (id_at s))
KeepsRepliesAt requests s new taken fault.Ended n kept = (n ≡ length kept) × ClientGoesOn (channel_of_connection new) (asked_at s requests)
    (s.octets ++ taken) s.told
    (IsFront IsUntold kept requests (id_at s))
KeepsRepliesAt requests s new taken fault.Read n kept = (n ≡ length kept) × ClientGoesOn (channel_of_connection new) (asked_at s requests)
    (s.octets ++ taken) s.told
    (IsFront IsUntold kept requests (id_at s))
KeepsRepliesAt requests s new taken fault.TooLong n kept = (n ≡ length kept) × ClientGoesOn (channel_of_connection new) (asked_at s requests)
    (s.octets ++ taken) s.told
    (IsFront IsUntold kept requests (id_at s))
KeepsRepliesAt requests s new taken fault.UnknownResponse n kept = (n ≡ length kept) × ClientGoesOn (channel_of_connection new) (asked_at s requests)
    (s.octets ++ taken) s.told
    (IsFront LacksAnswer kept requests (id_at s))
KeepsRepliesAt requests s new taken fault.OutOfMemory n kept = (n ≡ length kept) ×
    (((taken ≡ []) × (kept ≡ []))
    ⊎ ((heard : List ClientTold) × LacksMemory (channel_of_connection new) (asked_at s requests) (s.octets ++ taken) (s.told ++ heard)
    × IsFront IsUntoldBefore kept requests (id_at s) (s.told ++ heard)))
KeepsRepliesAt requests s new taken fault.Write n kept = (n ≡ 0) × (kept ≡ [])
KeepsRepliesAt requests s new taken fault.TooLarge n kept = IsGroupRefusedFor requests s fault.TooLarge n × (kept ≡ [])
KeepsRepliesAt requests s new taken fault.NotWritable n kept = IsGroupRefusedFor requests s fault.NotWritable n × (kept ≡ [])
KeepsRepliesAt requests s new taken fault.Exhausted n kept = IsGroupRefusedFor requests s fault.Exhausted n × (kept ≡ [])
KeepsRepliesAt requests s new taken other n kept = ⊥

-- the outcome of a group of calls here, with the replies that are added
abbrev pub CallsGroupAt : {A : Type 0} → List Request → ClientPlace → Connection → List ℕ → List ℕ → Result A CallsFault → List Reply → Type 0
CallsGroupAt requests s new sent taken (Ok done) added = (sent ≡ sent_at s requests)
    × ((t : ClientPlace) × StandsAt (channel_of_connection new) t × LastCame (channel_of_connection new) requests (id_at s) t.asks t.octets t.told
    × Answered requests s t taken added)
CallsGroupAt requests s new sent taken (Err c) added = BreaksAt requests s new sent taken c.fault × KeepsRepliesAt requests s new taken c.fault c.request added

-- a group of calls, whose replies are added to those that were there, of a channel that is idle
pub record CallsGroup {A : Type 0} (requests : List Request) (old new : Connection) (before after : Option Traffic) (reads left : ℕ)
    (result : Result A CallsFault) (had have : List Reply) : Type 0 where
  pub sent : List ℕ
  pub moves : MovesConnection old new sent before after
  pub same : SameClient (channel_of_connection old) (channel_of_connection new)
  pub added : List Reply
  pub have_is : have ≡ had ++ added
  pub answers : (s : ClientPlace) → StandsAt (channel_of_connection old) s → IsIdle (channel_of_connection old) s
      → CallsGroupAt requests s new sent moves.taken result added
  pub stops : StopsByTraffic reads left moves.got new after (fault_alone result)

-- ---- all calls

-- after groups that are answered, the next one is not: these replies are added, and the fault names
-- this request
pub record BrokenInto (requests : List Request) (s : ClientPlace) (new : Connection) (sent taken : List ℕ) (c : CallsFault) (added : List Reply) : Type 0 where
  pub broken : BrokenAll requests s new sent taken c.fault
  -- of the group that is not answered these are kept, and this request of it is named
  pub kept : List Reply
  pub place : ℕ
  pub keeps : KeepsRepliesAt broken.group broken.behind new broken.taken_then c.fault place kept
  -- they are added after all replies to the groups before it
  pub added_is : added ≡ broken.replies ++ kept
  pub request_is : c.request ≡ length (all_of broken.groups) + place

-- the outcome of requests that are called there, with the replies that are added
abbrev pub CallsIntoAt : {A : Type 0} → List Request → ClientPlace → Connection → List ℕ → List ℕ → Result A CallsFault → List Reply → Type 0
CallsIntoAt requests s new sent taken (Ok done) added = AnsweredAll requests s (channel_of_connection new) sent taken added
CallsIntoAt requests s new sent taken (Err c) added = BrokenInto requests s new sent taken c added

-- requests that are called in groups, whose replies are added to those that were there
pub record CallsInto {A : Type 0} (requests : List Request) (old new : Connection) (before after : Option Traffic) (result : Result A CallsFault)
    (had have : List Reply) : Type 0 where
  pub sent : List ℕ
  pub moves : MovesConnection old new sent before after
  pub same : SameClient (channel_of_connection old) (channel_of_connection new)
  pub added : List Reply
  pub have_is : have ≡ had ++ added
  pub answers : (s : ClientPlace) → StandsAt (channel_of_connection old) s → CallsIntoAt requests s new sent moves.taken result added
  pub stops : StopsByTraffic most_reads most_reads moves.got new after (fault_alone result)
