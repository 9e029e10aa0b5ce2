-- The outcome of a stream under any rules: its good frames, and what follows them.
use Rattle.std.specs.Prelude.{◌≡◌, ℕ, ◌≤◌, ◌⊎◌, List, ◌++◌, Bool, true, false, Option, Some, None, length}
use Rattle.ua_frame.specs.declared.fault.FrameFault.{FrameFault}
use Rattle.ua_frame.specs.declared.frame.Frame.{Frame}
use Rattle.ua_frame.specs.declared.gate.Gate.{Gate}
use Rattle.ua_frame.specs.After.{AllAfter, each_after}
use Rattle.ua_frame.specs.Frames.{frame_octets, frames_octets, IsSized, LetsIn, header_fault, header_code, IsPartial}
use Rattle.ua_builtin.specs.Reasons.{first_reason}

-- the rules of one end of a connection, where E is what its frames tell, and X is why they are
-- rejected: a StatusCode, or also which end rejects
pub record Rules (E X : Type 0) : Type 0 where
  -- which frames may come after these
  pub gate : List Frame → Gate
  -- why the next frame after these may be rejected, in the order in which it is judged
  pub reasons : List Frame → Frame → List (X × Bool)
  -- the reason for a header that is rejected with this StatusCode
  pub of_header : ℕ → X
  -- what the next frame after these tells
  pub tells : List Frame → Frame → List E
  -- whether these are the last that are looked at
  pub over : List Frame → Bool

-- why a frame after these is rejected, if it is
abbrev pub refusal : {E X : Type 0} → Rules E X → List Frame → Frame → Option X
refusal R before f = first_reason (R.reasons before f)

-- a frame that is taken after these
pub record Fits {E X : Type 0} (R : Rules E X) (before : List Frame) (f : Frame) : Type 0 where
  pub goes_on : R.over before ≡ false
  pub sized : IsSized f
  pub let_in : LetsIn (R.gate before) f
  pub accepted : refusal R before f ≡ None

-- what these frames tell, each after those before it
abbrev pub events : {E X : Type 0} → Rules E X → List Frame → List E
events R fs = each_after R.tells fs

-- the state of a stream: it goes on, it is rejected for a reason, it has ended
pub data End (X : Type 0) : Type 0 where
  Going : End X
  Stopped : (why : X) → End X
  Over : End X

-- a header that is rejected after these frames
pub record WrongHeader {E X : Type 0} (R : Rules E X) (before : List Frame) (rest : List ℕ) (why : X) : Type 0 where
  pub fault : FrameFault
  pub code : ℕ
  pub whole : 8 ≤ length rest
  pub fault_is : header_fault (R.gate before) rest ≡ Some fault
  pub code_is : header_code fault ≡ Some code
  pub why_is : R.of_header code ≡ why

-- a frame that is rejected after these
pub record WrongFrame {E X : Type 0} (R : Rules E X) (before : List Frame) (rest : List ℕ) (why : X) : Type 0 where
  pub frame : Frame
  pub more : List ℕ
  pub parts : rest ≡ frame_octets frame ++ more
  pub sized : IsSized frame
  pub let_in : LetsIn (R.gate before) frame
  pub refused : refusal R before frame ≡ Some why

-- how the stream goes on after its good frames
abbrev pub EndsIn : {E X : Type 0} → Rules E X → List Frame → List ℕ → End X → Type 0
EndsIn R fs rest Going = (R.over fs ≡ false) × IsPartial (R.gate fs) rest
EndsIn R fs rest (Stopped why) = (R.over fs ≡ false) × (WrongHeader R fs rest why ⊎ WrongFrame R fs rest why)
EndsIn R fs rest Over = R.over fs ≡ true

-- the bytes are these good frames, and what follows them ends in this way
pub record Run {E X : Type 0} (R : Rules E X) (octets : List ℕ) (fs : List Frame) (rest : List ℕ) (end : End X) : Type 0 where
  pub whole : octets ≡ frames_octets fs ++ rest
  pub good : AllAfter (Fits R) fs
  pub ends : EndsIn R fs rest end
