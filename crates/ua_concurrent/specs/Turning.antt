-- What a turn does.
use Rattle.std.specs.Prelude.{◌≡◌, ◌⊎◌, ◌<◌, ◌≤◌, ◌++◌, ℕ, Bool, true, false, List, [], length, drop, Option, None, Some, is_some, Result, Ok, Err}
use Rattle.std.specs.Option.{option_map}
use Rattle.ua_frame.specs.declared.frame.Frame.{Frame}
use Rattle.ua_channel.specs.ServerStands.{ChannelStands as Holds}
use Rattle.ua_server.specs.Served.{channel_at}
use Rattle.ua_server.specs.Serving.{IsClean}
use Rattle.ua_server.specs.declared.step.End.{End}
use Rattle.ua_server.specs.declared.step.End.TheVariants.{Closed, NoClose, Cut, Refused}
use Rattle.ua_server.specs.declared.step.Step.{Step}
use Rattle.ua_channel.specs.Line.{one_more}
use Rattle.ua_concurrent.specs.Carried.{with_more, with_read}
use Rattle.ua_concurrent.specs.Seen.{Seen, SocketWrites, woken}
use Rattle.ua_concurrent.specs.Talk.{Talk, is_going, is_ready}
use Rattle.ua_concurrent.specs.declared.outcome.Failure.{Failure}
use Rattle.ua_concurrent.specs.declared.outcome.Failure.TheVariants as failure
use Rattle.ua_concurrent.specs.declared.outcome.Phase.{Phase}
use Rattle.ua_concurrent.specs.declared.outcome.Phase.TheVariants as phase
use Rattle.ua_concurrent.specs.declared.socket.Readiness.{Readiness}

-- all that was read is stepped, all that was answered is written, and the bytes go on
abbrev pub IsTalkIdle : {S : Type 0} → Talk S → Type 0
IsTalkIdle t = (t.phase ≡ phase.Going) × (t.unread ≡ []) × (t.waiting ≡ [])

-- no frame and no message of it is unfinished
abbrev pub HasNoneUnfinished : {S : Type 0} → Talk S → Type 0
HasNoneUnfinished t = (octets : List ℕ) (frames : List Frame) (rest : List ℕ) → Holds (channel_at t.connection) octets frames rest → IsClean frames rest

-- a frame or a message is unfinished
abbrev pub HasUnfinished : {S : Type 0} → Talk S → Type 0
HasUnfinished t = (octets : List ℕ) (frames : List Frame) (rest : List ℕ) → Holds (channel_at t.connection) octets frames rest → IsClean frames rest → ⊥

-- how a connection ends whose input ends
abbrev pub FinishesTalk : {S : Type 0} → End → Talk S → Type 0
FinishesTalk NoClose t = HasNoneUnfinished t
FinishesTalk Cut t = HasUnfinished t
FinishesTalk Closed t = ⊥
FinishesTalk (Refused code) t = ⊥

-- The outcome of a connection: it closed or was rejected, and all is written; a read found the end
-- of its input when all was stepped and written, and no frame and no message was unfinished, or one
-- was; it could not be read, when all was stepped and written; it could not be written, and
-- something waits; or an allocation failed.
abbrev pub CameTo : {S : Type 0} → (S → Seen) → Result End Failure → Talk S → Type 0
CameTo seen (Ok NoClose) t = IsTalkIdle t × HasNoneUnfinished t × ((seen t.socket).ended ≡ true)
CameTo seen (Ok Cut) t = IsTalkIdle t × HasUnfinished t × ((seen t.socket).ended ≡ true)
CameTo seen (Ok Closed) t = (t.phase ≡ phase.Closed) × (t.waiting ≡ [])
CameTo seen (Ok (Refused code)) t = (t.phase ≡ phase.Refused code) × (t.waiting ≡ [])
CameTo seen (Err failure.Read) t = IsTalkIdle t
CameTo seen (Err failure.Write) t = 0 < length t.waiting
CameTo seen (Err failure.OutOfMemory) t = (t.phase ≡ phase.Starved) × (t.waiting ≡ [])

-- it is over with this outcome, if it is over
abbrev pub IsTalkOver : {S : Type 0} → (S → Seen) → Option (Result End Failure) → Talk S → Type 0
IsTalkOver seen None t = Unit {0}
IsTalkOver seen (Some outcome) t = CameTo seen outcome t

-- the count of failures of the socket, where a turn led to this: one more, just where it is over
-- because the socket could not be read or written
abbrev pub failures_by : Option (Result End Failure) → ℕ → ℕ
failures_by None n = n
failures_by (Some (Ok end)) n = n
failures_by (Some (Err failure.Read)) n = one_more n
failures_by (Some (Err failure.Write)) n = one_more n
failures_by (Some (Err failure.OutOfMemory)) n = n

-- the same, from one state of a socket to another
abbrev pub FailedBy : Option (Result End Failure) → Seen → Seen → Type 0
FailedBy outcome a b = b.failures ≡ failures_by outcome a.failures

-- these bytes were read, and these written, where the socket tells them
abbrev pub Moved : List ℕ → List ℕ → Seen → Seen → Type 0
Moved read written a b = b.heard ≡ option_map (with_more read written) a.heard

-- ---- what its parts do

-- the most bytes that are read at once
abbrev pub most_read : ℕ
most_read = 4096

-- what waits is written as far as the socket takes it
pub record WroteToSocket {S : Type 0} (seen : S → Seen) (a b : Talk S) : Type 0 where
  pub count : ℕ
  pub some : 0 < count
  pub within : count ≤ length a.waiting
  pub is : b ≡ record a { socket = b.socket; waiting = drop count a.waiting }
  pub did : SocketWrites (Ok count) a.waiting (seen a.socket) (seen b.socket)

-- a fragment is read, if all that was read before is stepped
pub record Read {S : Type 0} (seen : S → Seen) (a b : Talk S) : Type 0 where
  pub piece : List ℕ
  pub some : 0 < length piece
  pub within : length piece ≤ most_read
  pub is : b ≡ record a { socket = b.socket; unread = piece }
  pub heard_is : (seen b.socket).heard ≡ option_map (with_read piece) (seen a.socket).heard
  pub failures_is : (seen b.socket).failures ≡ (seen a.socket).failures

-- the input ended: the connection is over
pub record Finished {S : Type 0} (seen : S → Seen) (a b : Talk S) : Type 0 where
  pub end : End
  pub is : b ≡ record a { socket = b.socket; outcome = Some (Ok end); unread = [] }
  pub fits : FinishesTalk end b
  pub heard_is : (seen b.socket).heard ≡ option_map (with_read []) (seen a.socket).heard
  pub failures_is : (seen b.socket).failures ≡ (seen a.socket).failures
  pub ended : (seen b.socket).ended ≡ true

-- the socket can move nothing now
pub record Stopped {S : Type 0} (seen : S → Seen) (able : Seen → Bool) (a b : Talk S) : Type 0 where
  pub is : b ≡ record a { socket = b.socket }
  pub unable : able (seen b.socket) ≡ false
  pub heard_is : (seen b.socket).heard ≡ (seen a.socket).heard
  pub failures_is : (seen b.socket).failures ≡ (seen a.socket).failures

-- the socket failed: the connection is over
pub record Failed {S : Type 0} (seen : S → Seen) (failure : Failure) (a b : Talk S) : Type 0 where
  pub is : b ≡ record a { socket = b.socket; outcome = Some (Err failure) }
  pub heard_is : (seen b.socket).heard ≡ (seen a.socket).heard
  pub failures_is : (seen b.socket).failures ≡ one_more (seen a.socket).failures

-- what a write does
abbrev pub WritesSocket : {S : Type 0} → (S → Seen) → Talk S → Talk S → Type 0
WritesSocket seen a b = WroteToSocket seen a b ⊎ Stopped seen (λ s. s.writable) a b ⊎ Failed seen failure.Write a b

-- what a read does
abbrev pub ReadsSocket : {S : Type 0} → (S → Seen) → Talk S → Talk S → Type 0
ReadsSocket seen a b = Read seen a b ⊎ Finished seen a b ⊎ Stopped seen (λ s. s.readable) a b ⊎ Failed seen failure.Read a b

-- what the system reported of its socket is passed on
pub record WokeTalk {S : Type 0} (seen : S → Seen) (readiness : Readiness) (a b : Talk S) : Type 0 where
  pub is : b ≡ record a { socket = b.socket }
  pub woken : seen b.socket ≡ woken readiness (seen a.socket)

-- the phase of a connection by how its step ended; no step ends where the input does
abbrev pub phase_after_step : Option End → Phase
phase_after_step None = phase.Going
phase_after_step (Some (Refused code)) = phase.Refused code
phase_after_step (Some Closed) = phase.Closed
phase_after_step (Some NoClose) = phase.Closed
phase_after_step (Some Cut) = phase.Closed

-- the outcome of a step is kept: what it took is no longer unread, and what it answered waits after
-- what waits already; if an allocation failed the answer is lost
abbrev pub KeepsStep : {S : Type 0} → Step → Talk S → Talk S → Type 0
KeepsStep step a b = (b ≡ record a { phase = phase_after_step step.end; unread = drop step.taken a.unread; waiting = a.waiting ++ step.out.items })
    ⊎ (b ≡ record a { phase = phase.Starved; unread = drop step.taken a.unread })

-- bytes were stepped: the client's bytes ended, or fewer are unread
pub record Stepped {S : Type 0} (a b : Talk S) : Type 0 where
  pub number_is : b.number ≡ a.number
  pub socket_is : b.socket ≡ a.socket
  pub outcome_is : b.outcome ≡ a.outcome
  pub fewer : (is_going b.phase ≡ false) ⊎ (length b.unread < length a.unread)

-- the same with a write after it
pub record SteppedAndWrote {S : Type 0} (seen : S → Seen) (a b : Talk S) : Type 0 where
  pub written : List ℕ
  pub moved : Moved [] written (seen a.socket) (seen b.socket)
  pub number_is : b.number ≡ a.number
  pub fewer : (is_going b.phase ≡ false) ⊎ (length b.unread < length a.unread)
  pub over : IsTalkOver seen b.outcome b
  pub failed : FailedBy b.outcome (seen a.socket) (seen b.socket)

-- ---- a turn

-- something moved: it is over now, or fewer bytes wait, or fewer are unread, or the client's bytes
-- ended, or some were read; or else the socket told that nothing can be moved now
abbrev pub Moves : {S : Type 0} → (S → Seen) → List ℕ → Talk S → Talk S → Type 0
Moves seen read a b =
    (is_some b.outcome ≡ true) ⊎ (length b.waiting < length a.waiting) ⊎ (length b.unread < length a.unread) ⊎ (is_going b.phase ≡ false)
    ⊎ (0 < length read) ⊎ (is_ready seen b ≡ false)

-- a turn of one that is not over and waits for nothing to be written
pub record Turned {S : Type 0} (seen : S → Seen) (a b : Talk S) : Type 0 where
  pub read : List ℕ
  pub written : List ℕ
  pub within : length read ≤ most_read
  pub moved : Moved read written (seen a.socket) (seen b.socket)
  pub number_is : b.number ≡ a.number
  pub moves : Moves seen read a b
  pub over : IsTalkOver seen b.outcome b
  pub failed : FailedBy b.outcome (seen a.socket) (seen b.socket)

-- A turn: these bytes were read, no more than 4,096, and these were written. One that can do
-- something does, and one that cannot is left unchanged. While an answer waits nothing is read.
pub record HadTurn {S : Type 0} (seen : S → Seen) (a b : Talk S) : Type 0 where
  pub read : List ℕ
  pub written : List ℕ
  pub within : length read ≤ most_read
  pub moved : Moved read written (seen a.socket) (seen b.socket)
  pub waits : 0 < length a.waiting → read ≡ []
  pub number_is : b.number ≡ a.number
  pub idle : is_ready seen a ≡ false → b ≡ a
  pub moves : is_ready seen a ≡ true → Moves seen read a b
  pub over : a.outcome ≡ None → IsTalkOver seen b.outcome b
  pub failed : a.outcome ≡ None → FailedBy b.outcome (seen a.socket) (seen b.socket)
