-- What the parts of serving make of bytes.
use Rattle.std.specs.Prelude.{◌≡◌, ℕ, ◌+◌, ◌<◌, ◌≤◌, ℤ, Bool, true, false, List, [], ◌++◌, cond, min, take, length, Option, Some, None, Result, Ok, Err}
use Rattle.ua_builtin.specs.declared.date_time.DateTime.{DateTime}
use Rattle.ua_frame.specs.declared.frame.Frame.{Frame}
use Rattle.ua_frame.specs.declared.limits.Limits.{Limits}
use Rattle.ua_channel.specs.Agreement.{Agreement}
use Rattle.ua_channel.specs.Line.{Traffic, IfTrafficKnown}
use Rattle.ua_channel.specs.Moments.{GivesTimes}
use Rattle.ua_channel.specs.Received.{listed}
use Rattle.ua_channel.specs.ServerPlaces.{agreed_by}
use Rattle.ua_channel.specs.ServerStands.{limits_of, channel_of}
use Rattle.ua_channel.specs.ServerTold.{Told}
use Rattle.ua_channel.specs.declared.taken.Taken.{Taken}
use Rattle.ua_server.specs.Happening.{Event, Leads, noted_in}
use Rattle.ua_server.specs.History.{ConnectionEvent, StandsOver, moments_of, output_over, told_in}
use Rattle.ua_server.specs.Said.{start}
use Rattle.ua_server.specs.Served.{channel_in}
use Rattle.ua_server.specs.Serving.{moments_in, told_at, IsClean, IsUsedUp, AreAsked, MovesTraffic, greatest}
use Rattle.ua_server.specs.ServingOver.{Acts, ActsFirst, EndedOver, FailedOver, LastSaid, requests_over}
use Rattle.ua_server.specs.State.{State}
use Rattle.ua_server.specs.declared.serve_fault.ServeFault.{ServeFault}
use Rattle.ua_server.specs.declared.serve_fault.ServeFault.TheVariants as fault
use Rattle.ua_server.specs.declared.serving.Serving.{Serving}
use Rattle.ua_server.specs.declared.step.End.{End as Ending}
use Rattle.ua_server.specs.declared.step.End.TheVariants as ending
use Rattle.ua_server.specs.declared.step.Step.{Step}
use Rattle.ua_server.specs.declared.step.StepFault.{StepFault}
use Rattle.ua_server.specs.declared.surroundings.Surroundings.{Surroundings}

-- ---- the end of the input

-- how a connection ends whose input ends, by whether a frame or a message is unfinished
abbrev pub Finishes : Ending → List Frame → List ℕ → Type 0
Finishes ending.NoClose frames rest = IsClean frames rest
Finishes ending.Cut frames rest = IsClean frames rest → ⊥
Finishes ending.Closed frames rest = ⊥
Finishes (ending.Refused code) frames rest = ⊥

-- ---- what is read

-- the most bytes that are read at once
abbrev pub most_at_once : ℕ
most_at_once = 4096

-- ---- what is written

-- the sum of this many bytes and this many more, up to the greatest number
abbrev pub sum_up_to_greatest : ℕ → ℕ → ℕ
sum_up_to_greatest n more = min (n + more) greatest

-- bytes were written and counted, all of them, or not the last
abbrev pub WritesCounted : List ℕ → Result (Unit {0}) ServeFault → Serving → Serving → Option Traffic → Option Traffic → Type 0
WritesCounted octets (Ok u) old new before after = (new ≡ record old { written = sum_up_to_greatest old.written (length octets) })
    × IfTrafficKnown (MovesTraffic [] octets) before after
WritesCounted octets (Err f) old new before after = (n : ℕ) × (f ≡ fault.Write (sum_up_to_greatest old.written n)) × (n < length octets)
    × IfTrafficKnown (MovesTraffic [] (take n octets)) before after

-- an answer was made: the first one is the ACK, and those after it use the timestamp that is kept
abbrev pub noted : Serving → Serving
noted x = record x { moment = cond x.greeted None x.moment; greeted = true }

-- ---- how far serving has come

-- there is an agreement
abbrev pub is_there : Option Agreement → Bool
is_there None = false
is_there (Some a) = true

-- a timestamp is kept exactly if one that was requested is left over after these bytes
abbrev pub IsTimeKept : Limits → ℕ → List ℕ → Option DateTime → Type 0
IsTimeKept limits channel read None = IsUsedUp limits channel read
IsTimeKept limits channel read (Some moment) = IsUsedUp limits channel read → ⊥

-- if something is to be written, these timestamps were requested up to the last answer
abbrev pub AreAskedBy : List ℕ → Limits → ℕ → List ℕ → List Told → List DateTime → Type 0
AreAskedBy out limits channel front told moments = 0 < length out → AreAsked limits channel front told moments

-- a connection is served from its beginning
pub record BeginsServing (x : Serving) (limits : Limits) (channel : ℕ) : Type 0 where
  pub limits_is : limits_of (channel_in x.server) ≡ limits
  pub channel_is : channel_of (channel_in x.server) ≡ channel
  pub stands : (first : State) → StandsOver (channel_in x.server) [] [] first first
  pub none_kept : x.moment ≡ None
  pub not_greeted : x.greeted ≡ false
  pub none_written : x.written ≡ 0

-- a connection that is served goes on, beside an application: of the output for the events these
-- bytes are written and these are not yet; and of the timestamps given all are used, except the one
-- that is kept, if there is one
pub record Owes {A : Type 0} (changes : A → State → A → State → Type 0) (x : Serving) (limits : Limits) (channel : ℕ) (first : State × A)
    (read out written : List ℕ) (ticks : List Event) (now : State × A) : Type 0 where
  pub limits_is : limits_of (channel_in x.server) ≡ limits
  pub channel_is : channel_of (channel_in x.server) ≡ channel
  pub history : List ConnectionEvent
  pub acted : Acts changes channel (start first.0 []) first.1 history now.1
  pub acts_first : ActsFirst false history
  pub moments_are : moments_in ticks ≡ moments_of history ++ listed x.moment
  pub stands : StandsOver (channel_in x.server) read history first.0 now.0
  pub kept_is : IsTimeKept limits channel read x.moment
  pub greeted_is : x.greeted ≡ is_there (agreed_by (told_in history))
  pub count_is : x.written ≡ min (length written) greatest
  pub said_is : output_over channel (start first.0 []) history ≡ written ++ out
  pub requests_are : noted_in ticks ≡ requests_over channel (start first.0 []) history
  pub last : LastSaid limits channel first.0 read out written history
  pub asked : AreAskedBy out limits channel last.front (told_in last.before ++ told_at last.word) (moments_in ticks)

-- all of the output is written
abbrev pub OwesNothing : {A : Type 0} → (A → State → A → State → Type 0) → Serving → Limits → ℕ → State × A → List ℕ → List ℕ → List Event → State × A → Type 0
OwesNothing changes x limits channel first read written ticks now = Owes changes x limits channel first read [] written ticks now

-- the connection ended, and of the output these bytes are not written yet
pub record EndsOwing {A : Type 0} (changes : A → State → A → State → Type 0) (x : Serving) (end : Ending) (limits : Limits) (channel : ℕ) (first : State × A)
    (read out written : List ℕ) (ticks : List Event) (now : State × A) : Type 0 where
  pub count_is : x.written ≡ min (length written) greatest
  pub history : List ConnectionEvent
  pub acted : Acts changes channel (start first.0 []) first.1 history now.1
  pub acts_first : ActsFirst false history
  pub ends : EndedOver end limits channel first.0 read (written ++ out) (moments_in ticks) (noted_in ticks) history now.0
  pub last : LastSaid limits channel first.0 read out written history
  pub asked : AreAskedBy out limits channel last.front (told_in last.before ++ told_at last.word) (moments_in ticks)

-- how a connection ended
pub record EndsTelling {A : Type 0} (changes : A → State → A → State → Type 0) (end : Ending) (limits : Limits) (channel : ℕ) (first : State × A)
    (read written : List ℕ) (ticks : List Event) (now : State × A) : Type 0 where
  pub history : List ConnectionEvent
  pub acted : Acts changes channel (start first.0 []) first.1 history now.1
  pub acts_first : ActsFirst false history
  pub ends : EndedOver end limits channel first.0 read written (moments_in ticks) (noted_in ticks) history now.0

-- how an answer failed
pub record FailsTelling {A : Type 0} (changes : A → State → A → State → Type 0) (f : ServeFault) (limits : Limits) (channel : ℕ) (first : State × A)
    (read written : List ℕ) (ticks : List Event) (now : State × A) : Type 0 where
  pub history : List ConnectionEvent
  pub acted : Acts changes channel (start first.0 []) first.1 history now.1
  pub acts_first : ActsFirst false history
  pub fails : FailedOver f limits channel first.0 read written (moments_in ticks) (noted_in ticks) history now.0

-- the outcome for a prefix of a fragment, by how the connection ended, if it did, before its
-- response is written
abbrev pub AdvancesTo : {A : Type 0} → (A → State → A → State → Type 0) → Option Ending → Serving → Limits → ℕ → State × A → List ℕ → List ℕ → List ℕ
    → List Event → State × A → Type 0
AdvancesTo changes None x limits channel first read out written ticks now = Owes changes x limits channel first read out written ticks now
AdvancesTo changes (Some end) x limits channel first read out written ticks now = EndsOwing changes x end limits channel first read out written ticks now

-- a step, whose answer is not written yet
abbrev pub Steps : {A : Type 0} → (A → State → A → State → Type 0) → Result Step StepFault → Serving → Limits → ℕ → State × A → List ℕ → List ℕ → List ℕ
    → List Event → State × A → Type 0
Steps changes (Ok step) x limits channel first piece read written ticks now = AdvancesTo changes step.end x limits channel first (read ++ take step.taken piece)
    step.out.items written ticks now
Steps changes (Err f) x limits channel first piece read written ticks now = FailsTelling changes fault.OutOfMemory limits channel first
    (read ++ piece) written ticks now

-- the same by how the connection ended, once the answer is written
abbrev pub TurnsTo : {A : Type 0} → (A → State → A → State → Type 0) → Option Ending → Serving → Limits → ℕ → State × A → List ℕ → List ℕ → List Event
    → State × A → Type 0
TurnsTo changes None x limits channel first read written ticks now = OwesNothing changes x limits channel first read written ticks now
TurnsTo changes (Some end) x limits channel first read written ticks now = EndsTelling changes end limits channel first read written ticks now

-- a step and its response
abbrev pub Turns : {A : Type 0} → (A → State → A → State → Type 0) → Result (Taken (Option Ending)) ServeFault → Serving → Limits → ℕ → State × A → List ℕ
    → List ℕ → List ℕ → List Event → State × A → Type 0
Turns changes (Ok turn) x limits channel first piece read written ticks now = TurnsTo changes turn.outcome x limits channel first (read ++ take turn.size piece)
    written ticks now
Turns changes (Err f) x limits channel first piece read written ticks now = FailsTelling changes f limits channel first (read ++ piece) written ticks now

-- a whole fragment, or the bytes of it up to the end of the connection
abbrev pub Handles : {A : Type 0} → (A → State → A → State → Type 0) → Result (Option Ending) ServeFault → Serving → Limits → ℕ → State × A → List ℕ → List ℕ
    → List Event → State × A → Type 0
Handles changes (Ok end) x limits channel first read written ticks now = TurnsTo changes end x limits channel first read written ticks now
Handles changes (Err f) x limits channel first read written ticks now = FailsTelling changes f limits channel first read written ticks now

-- ---- what stands beside the services

-- the same source, observer and application are lent, whatever their states
abbrev pub AreLentStill : {M W A : Type 0} → Surroundings M W A → Surroundings M W A → Type 0
AreLentStill old new = (new.moments.ghost_name ≡ old.moments.ghost_name) × (new.watch.ghost_name ≡ old.watch.ghost_name)
    × (new.application.ghost_name ≡ old.application.ghost_name)

-- ---- what is exchanged

-- in between bytes were read and written, timestamps given and requests told, with this property
pub record Exchanged {M : Type 0} (gives : M → Event → M → Type 0) (moments later : M) (read : List ℕ) (before after : Option Traffic) (P : List ℕ → List Event
    → Type 0) : Type 0 where
  pub written : List ℕ
  pub ticks : List Event
  pub moved : IfTrafficKnown (MovesTraffic read written) before after
  pub given : Leads gives moments ticks later
  pub holds : P written ticks

-- timestamps were given, with this property
pub record Asked {M : Type 0} (gives : M → ℤ → M → Type 0) (moments later : M) (P : List ℤ → Type 0) : Type 0 where
  pub ticks : List ℤ
  pub given : GivesTimes gives moments ticks later
  pub holds : P ticks

-- timestamps were given and requests told, with this property
pub record OfEventsBetween {M : Type 0} (step : M → Event → M → Type 0) (before later : M) (P : List Event → Type 0) : Type 0 where
  pub ticks : List Event
  pub given : Leads step before ticks later
  pub holds : P ticks

-- a transport is read up to its end: this many reads returned this, and it is answered
pub record ReadsToEnd {M : Type 0} (gives : M → Event → M → Type 0) (moments later : M) (before after : Option Traffic) (reads : ℕ) (P : List ℕ → List ℕ
    → List Event
    → Type 0) : Type 0 where
  pub read : List ℕ
  pub enough : reads ≤ length read
  pub exchanged : Exchanged gives moments later read before after (λ written ticks. P read written ticks)
