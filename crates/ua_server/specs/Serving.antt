-- The outcome of serving a transport.
pub use Rattle.ua_channel.specs.Line.{MovesTraffic}
use Rattle.std.specs.Prelude.{◌≡◌, ◌⊎◌, ℕ, ◌+◌, ◌<◌, ◌≤◌, ℤ, IsTrue, List, [], ◌∷◌, ◌++◌, map, min, length, Option, Some, None, Result, Ok, Err}
use Rattle.ua_builtin.specs.declared.date_time.DateTime.{DateTime}
use Rattle.ua_chunk.specs.Open.{open_ids}
use Rattle.ua_frame.specs.Run.{End, Going, Stopped, Over, Run, events}
use Rattle.ua_frame.specs.declared.frame.Frame.{Frame}
use Rattle.ua_frame.specs.declared.limits.Limits.{Limits}
use Rattle.ua_channel.specs.Line.{Traffic, IfTrafficKnown, one_more}
use Rattle.ua_channel.specs.Moments.{GivesTimes}
use Rattle.ua_channel.specs.Received.{received}
use Rattle.ua_channel.specs.ServerRules.{server_rules}
use Rattle.ua_channel.specs.ServerTold.{Told}
use Rattle.ua_channel.specs.Stops.{StopsAt}
use Rattle.ua_server.specs.Happening.{Event, Happens, Leads, noted_in, ticks_in}
use Rattle.ua_server.specs.Requests.{requests_answered}
use Rattle.ua_server.specs.Said.{is_answered, state_after, output_of, used_in}
use Rattle.ua_server.specs.State.{State}
use Rattle.ua_server.specs.declared.serve_fault.ServeFault.{ServeFault}
use Rattle.ua_server.specs.declared.serve_fault.ServeFault.TheVariants as fault
use Rattle.ua_server.specs.declared.step.End.{End as Ending}
use Rattle.ua_server.specs.declared.step.End.TheVariants as ending
use Rattle.ua_server.specs.declared.watch.AnsweredRequest.{AnsweredRequest}

-- ---- times

-- the time of this many ticks
abbrev pub moment_of : ℤ → DateTime
moment_of ticks = record { ticks = ticks }

-- the timestamps among the events
abbrev pub moments_in : List Event → List DateTime
moments_in events = map moment_of (ticks_in events)

-- these bytes end with a frame whose answer uses a timestamp
pub record EndsUsing (limits : Limits) (channel : ℕ) (octets : List ℕ) : Type 0 where
  pub frames : List Frame
  pub frame : Frame
  pub run : Run (server_rules limits channel) octets (frames ++ frame ∷ []) [] Going
  pub uses_one : used_in ((server_rules limits channel).tells frames frame) ≡ 1

-- no timestamp that was requested is left over after these bytes: there are none of them, or they
-- end with a frame whose answer uses one
abbrev pub IsUsedUp : Limits → ℕ → List ℕ → Type 0
IsUsedUp limits channel octets = (octets ≡ []) ⊎ EndsUsing limits channel octets

-- the timestamps that are requested over bytes which told this: those that were used, and one more
-- exactly if one is left over
abbrev pub AreAsked : Limits → ℕ → List ℕ → List Told → List DateTime → Type 0
AreAsked limits channel octets told moments =
    (IsUsedUp limits channel octets × (length moments ≡ used_in told)) ⊎ ((IsUsedUp limits channel octets → ⊥) × (length moments ≡ used_in told + 1))

-- each of the timestamps is used by what was told, except perhaps the last one
abbrev pub AreUsed : List Told → List DateTime → Type 0
AreUsed told moments = (used_in told ≤ length moments) × (length moments ≤ used_in told + 1)

-- ---- all that was read is answered

-- these are the frames of what was read; what was written is the response to it, and the state is
-- the one that it leaves
pub record AnsweredTo (limits : Limits) (channel : ℕ) (first : State) (read written : List ℕ) (moments : List DateTime) (now : State) (frames : List Frame)
    (rest : List ℕ) (end : End ℕ) : Type 0 where
  pub run : Run (server_rules limits channel) read frames rest end
  pub written_is : written ≡ output_of channel first (events (server_rules limits channel) frames) end moments
  pub state_is : (state_after channel first (events (server_rules limits channel) frames) moments).state ≡ now
  pub asked : AreAsked limits channel read (events (server_rules limits channel) frames) moments

-- the same for some frames, after which the connection is in this state
pub record AnsweredAllRead (limits : Limits) (channel : ℕ) (first : State) (read written : List ℕ) (moments : List DateTime) (now : State)
    (end : End ℕ) : Type 0 where
  pub frames : List Frame
  pub rest : List ℕ
  pub to : AnsweredTo limits channel first read written moments now frames rest end

-- no frame and no message is unfinished
abbrev pub IsClean : List Frame → List ℕ → Type 0
IsClean frames rest = (rest ≡ []) × (open_ids (received frames).messages ≡ [])

-- the input ended: no bytes are to come, and this holds of the frames of what was read and of its
-- rest
pub record RanOut (limits : Limits) (channel : ℕ) (first : State) (read written : List ℕ) (moments : List DateTime) (now : State) (coming : List ℕ)
    (P : List Frame → List ℕ → Type 0) : Type 0 where
  pub frames : List Frame
  pub rest : List ℕ
  pub to : AnsweredTo limits channel first read written moments now frames rest Going
  pub none : coming ≡ []
  pub stands : P frames rest

-- ---- broken off

-- the last bytes of a server: none yet, the answer to what it was told, or the ERR frame with a
-- code
pub data LastWord : Type 0 where
  Nothing : LastWord
  Answer : (t : Told) → LastWord
  Refusal : (code : ℕ) → LastWord

-- what the server was told when it sent that
abbrev pub told_at : LastWord → List Told
told_at Nothing = []
told_at (Answer t) = t ∷ []
told_at (Refusal code) = []

-- the state of the connection when the server sent that
abbrev pub end_at : LastWord → End ℕ
end_at Nothing = Going
end_at (Answer t) = Going
end_at (Refusal code) = Stopped code

-- these bytes end with a frame that told this, which is answered, after what the frames before it
-- told
pub record EndsAnswered (limits : Limits) (channel : ℕ) (octets : List ℕ) (before : List Told) (t : Told) : Type 0 where
  pub frames : List Frame
  pub frame : Frame
  pub run : Run (server_rules limits channel) octets (frames ++ frame ∷ []) [] Going
  pub told_is : events (server_rules limits channel) frames ≡ before
  pub tells : (server_rules limits channel).tells frames frame ≡ t ∷ []
  pub answered : IsTrue (is_answered t)

-- these bytes end with a frame, or the header of one, that is rejected with this code, after what
-- the frames before it told
pub record EndsRefused (limits : Limits) (channel : ℕ) (octets : List ℕ) (before : List Told) (code : ℕ) : Type 0 where
  pub frames : List Frame
  pub rest : List ℕ
  pub run : Run (server_rules limits channel) octets frames rest (Stopped code)
  pub stops : StopsAt (server_rules limits channel) frames rest code
  pub told_is : events (server_rules limits channel) frames ≡ before

-- these bytes end where that was sent, after what was told before; there are none if nothing was
-- sent
abbrev pub EndsAt : Limits → ℕ → List ℕ → List Told → LastWord → Type 0
EndsAt limits channel octets before Nothing = (octets ≡ []) × (before ≡ [])
EndsAt limits channel octets before (Answer t) = EndsAnswered limits channel octets before t
EndsAt limits channel octets before (Refusal code) = EndsRefused limits channel octets before code

-- serving broke off: a prefix of what was read ends at the last answer, which may not be written
-- whole; all that is sent before that answer is written, and the state is the one that the prefix
-- leaves
pub record BrokenOff (limits : Limits) (channel : ℕ) (first : State) (read written : List ℕ) (moments : List DateTime) (now : State) : Type 0 where
  pub front : List ℕ
  pub behind : List ℕ
  pub front_is : read ≡ front ++ behind
  pub before : List Told
  pub word : LastWord
  pub ends : EndsAt limits channel front before word
  pub state_is : (state_after channel first (before ++ told_at word) moments).state ≡ now
  pub used : AreUsed (before ++ told_at word) moments
  pub part : List ℕ
  pub written_is : written ≡ output_of channel first before Going moments ++ part
  pub unwritten : List ℕ
  pub said_is : output_of channel first (before ++ told_at word) (end_at word) moments ≡ written ++ unwritten

-- ---- by the answer

-- the greatest number of 64 bits
abbrev pub greatest : ℕ
greatest = 0xFFFF_FFFF_FFFF_FFFF

-- how a connection ended that its own bytes ended
abbrev pub EndsBy : Ending → Limits → ℕ → State → List ℕ → List ℕ → List DateTime → State → Type 0
EndsBy ending.Closed limits channel first read written moments now = AnsweredAllRead limits channel first read written moments now Over
EndsBy (ending.Refused code) limits channel first read written moments now = AnsweredAllRead limits channel first read written moments now (Stopped code.code)
EndsBy ending.NoClose limits channel first read written moments now = ⊥
EndsBy ending.Cut limits channel first read written moments now = ⊥

-- how an answer failed; a failed write tells how many bytes were written in all, up to the greatest
-- number, and leaves some bytes of the last answer unwritten, and no timestamp was requested after
-- that answer; if an allocation fails the last answer is written whole or not at all
abbrev pub FailsBy : ServeFault → Limits → ℕ → State → List ℕ → List ℕ → List DateTime → State → Type 0
FailsBy fault.Read limits channel first read written moments now = ⊥
FailsBy (fault.Write n) limits channel first read written moments now = (broken : BrokenOff limits channel first read written moments now)
    × (0 < length broken.unwritten) × (n ≡ min (length written) greatest) × AreAsked limits channel broken.front (broken.before ++ told_at broken.word) moments
FailsBy fault.OutOfMemory limits channel first read written moments now = (broken : BrokenOff limits channel first read written moments now)
    × ((broken.part ≡ []) ⊎ (broken.unwritten ≡ []))
FailsBy fault.TooLong limits channel first read written moments now = ⊥

-- the outcome of serving, if these bytes were read and written at these times, and these are to
-- come
abbrev pub ServesBy : Result Ending ServeFault → Limits → ℕ → State → List ℕ → List ℕ → List DateTime → State → List ℕ → Type 0
ServesBy (Ok ending.Closed) limits channel first read written moments now coming = EndsBy ending.Closed limits channel first read written moments now
ServesBy (Ok (ending.Refused code)) limits channel first read written moments now coming =
    EndsBy (ending.Refused code) limits channel first read written moments now
ServesBy (Ok ending.NoClose) limits channel first read written moments now coming = RanOut limits channel first read written moments now coming IsClean
ServesBy (Ok ending.Cut) limits channel first read written moments now coming = RanOut limits channel first read written moments now coming
    (λ frames rest. IsClean frames rest → ⊥)
ServesBy (Err fault.Read) limits channel first read written moments now coming = AnsweredAllRead limits channel first read written moments now Going
ServesBy (Err (fault.Write n)) limits channel first read written moments now coming = FailsBy (fault.Write n) limits channel first read written moments now
ServesBy (Err fault.OutOfMemory) limits channel first read written moments now coming = FailsBy fault.OutOfMemory limits channel first read written moments now
ServesBy (Err fault.TooLong) limits channel first read written moments now coming = AnsweredAllRead limits channel first read written moments now Going
    × (greatest ≤ length read)

-- ---- the requests that are told of

-- the requests told are those that are answered of all that was read
abbrev pub TellsAll : (limits : Limits) (channel : ℕ) (first : State) (moments : List DateTime) → List Frame → List AnsweredRequest → Type 0
TellsAll limits channel first moments frames told = told ≡ requests_answered channel first (events (server_rules limits channel) frames) moments

-- how an answer failed: at a failed write the request of the last answer is told; if an allocation
-- fails it is told if that answer is written whole, and not if none of it is
abbrev pub FailTells : (f : ServeFault) (limits : Limits) (channel : ℕ) (first : State) (read written : List ℕ) (moments : List DateTime) (now : State)
    → FailsBy f limits channel first read written moments now → List AnsweredRequest → Type 0
FailTells fault.Read limits channel first read written moments now b told = ⊥
FailTells (fault.Write n) limits channel first read written moments now b told = told ≡ requests_answered channel first (b.0.before ++ told_at b.0.word) moments
FailTells fault.OutOfMemory limits channel first read written moments now b told =
    ((b.0.part ≡ []) × (told ≡ requests_answered channel first b.0.before moments))
    ⊎ ((b.0.unwritten ≡ []) × (told ≡ requests_answered channel first (b.0.before ++ told_at b.0.word) moments))
FailTells fault.TooLong limits channel first read written moments now b told = ⊥

-- which requests are told, by the outcome of serving: those that are answered of all that was read,
-- or if it broke off of the prefix that is answered
abbrev pub TellsBy : (result : Result Ending ServeFault) (limits : Limits) (channel : ℕ) (first : State) (read written : List ℕ) (moments : List DateTime)
    (now : State) (coming : List ℕ) → ServesBy result limits channel first read written moments now coming → List AnsweredRequest → Type 0
TellsBy (Ok ending.Closed) limits channel first read written moments now coming a told = TellsAll limits channel first moments a.frames told
TellsBy (Ok (ending.Refused code)) limits channel first read written moments now coming a told = TellsAll limits channel first moments a.frames told
TellsBy (Ok ending.NoClose) limits channel first read written moments now coming a told = TellsAll limits channel first moments a.frames told
TellsBy (Ok ending.Cut) limits channel first read written moments now coming a told = TellsAll limits channel first moments a.frames told
TellsBy (Err fault.Read) limits channel first read written moments now coming a told = TellsAll limits channel first moments a.frames told
TellsBy (Err (fault.Write n)) limits channel first read written moments now coming b told =
    FailTells (fault.Write n) limits channel first read written moments now b told
TellsBy (Err fault.OutOfMemory) limits channel first read written moments now coming b told =
    FailTells fault.OutOfMemory limits channel first read written moments now b told
TellsBy (Err fault.TooLong) limits channel first read written moments now coming a told = TellsAll limits channel first moments a.0.frames told

-- ---- by the transport

-- the bytes that are to come from a transport before more is written; none if it does not tell them
abbrev pub coming_now : Option Traffic → List ℕ
coming_now None = []
coming_now (Some traffic) = traffic.coming []

-- a transport was served from this state on: bytes were read and written, exactly these if it tells
-- its bytes, and timestamps were given in turn
pub record Serves {M : Type 0} (limits : Limits) (channel : ℕ) (gives : M → ℤ → M → Type 0) (first : State) (moments : M) (result : Result Ending ServeFault)
    (now : State) (later : M) (before after : Option Traffic) : Type 0 where
  pub read : List ℕ
  pub written : List ℕ
  pub ticks : List ℤ
  pub moved : IfTrafficKnown (MovesTraffic read written) before after
  pub given : GivesTimes gives moments ticks later
  pub comes_to : ServesBy result limits channel first read written (map moment_of ticks) now (coming_now after)

-- the same with a watcher of requests: timestamps were given and requests told in turn
pub record ServesTelling {M W : Type 0} (limits : Limits) (channel : ℕ) (gives : M → ℤ → M → Type 0) (notes : W → AnsweredRequest → W → Type 0) (first : State)
    (beside : M × W) (result : Result Ending ServeFault) (now : State) (later : M × W) (before after : Option Traffic) : Type 0 where
  pub read : List ℕ
  pub written : List ℕ
  pub happened : List Event
  pub moved : IfTrafficKnown (MovesTraffic read written) before after
  pub led : Leads (Happens gives notes) beside happened later
  pub comes_to : ServesBy result limits channel first read written (moments_in happened) now (coming_now after)
  pub tells : TellsBy result limits channel first read written (moments_in happened) now (coming_now after) comes_to (noted_in happened)

-- the count of failures of a transport after a call: it grew by one if the fault names the
-- transport, and otherwise it did not change
abbrev pub LineFailed : {A : Type 0} → ℕ → Result A ServeFault → ℕ → Type 0
LineFailed before (Ok a) after = after ≡ before
LineFailed before (Err fault.Read) after = after ≡ one_more before
LineFailed before (Err (fault.Write n)) after = after ≡ one_more before
LineFailed before (Err fault.OutOfMemory) after = after ≡ before
LineFailed before (Err fault.TooLong) after = after ≡ before
