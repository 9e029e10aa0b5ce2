-- What a frame reader holds, and what it makes of a fragment.
use Rattle.std.specs.Prelude.{◌≡◌, ℕ, ◌<◌, ◌≤◌, List, [], ◌∷◌, ◌++◌, Bool, true, false, Option, Some, None, Result, Ok, Err, length, take}
use Rattle.ua_frame.specs.declared.fault.FrameFault.{FrameFault}
use Rattle.ua_frame.specs.declared.fault.FrameFault.TheVariants.{UnknownType, OutOfPlace, TooLarge, TooSmall, OutOfMemory, Closed}
use Rattle.ua_frame.specs.declared.frame.Frame.{Frame}
use Rattle.ua_frame.specs.declared.gate.Gate.{Gate}
use Rattle.ua_frame.specs.Frames.{frame_octets, IsSized, LetsIn, header_fault, header_code, IsPartial}
use Rattle.ua_frame.specs.Run.{Rules, Run, Going, Stopped}

-- the state of a reader: its frame filter, the bytes of an incomplete frame, and whether it failed
pub record Reader : Type 0 where
  pub gate : Gate
  pub held : List ℕ
  pub failed : Bool

-- a reader that goes on with these bytes held
abbrev pub open_reader : Gate → List ℕ → Reader
open_reader gate held = record { gate = gate; held = held; failed = false }

-- a failed reader holds nothing
abbrev pub failed_reader : Gate → Reader
failed_reader gate = record { gate = gate; held = []; failed = true }

-- there is no complete frame yet: the reader took the whole fragment
pub record TakesAll (old : Reader) (piece : List ℕ) (n : ℕ) (new : Reader) : Type 0 where
  pub «open» : old.failed ≡ false
  pub all : n ≡ length piece
  pub partial : IsPartial old.gate (old.held ++ piece)
  pub new_is : new ≡ open_reader old.gate (old.held ++ piece)

-- there is a complete frame: the reader took the bytes up to its end
pub record TakesFrame (old : Reader) (piece : List ℕ) (n : ℕ) (f : Frame) (new : Reader) : Type 0 where
  pub «open» : old.failed ≡ false
  pub some : 0 < n
  pub within : n ≤ length piece
  pub octets : old.held ++ take n piece ≡ frame_octets f
  pub sized : IsSized f
  pub let_in : LetsIn old.gate f
  pub new_is : new ≡ open_reader old.gate []

-- the reader rejects a header, whose eight bytes are there
pub record Refuses (old : Reader) (piece : List ℕ) (fault : FrameFault) (new : Reader) : Type 0 where
  pub «open» : old.failed ≡ false
  pub header : 8 ≤ length (old.held ++ piece)
  pub fault_is : header_fault old.gate (old.held ++ piece) ≡ Some fault
  pub new_is : new ≡ failed_reader old.gate

-- an allocation failed, and not before a good header is there
pub record Starves (old : Reader) (piece : List ℕ) (new : Reader) : Type 0 where
  pub «open» : old.failed ≡ false
  pub header : 8 ≤ length (old.held ++ piece)
  pub good : header_fault old.gate (old.held ++ piece) ≡ None
  pub new_is : new ≡ failed_reader old.gate

-- the outcome of a reader for a fragment
abbrev pub Takes : Reader → List ℕ → Result (ℕ × Option Frame) FrameFault → Reader → Type 0
Takes old piece (Ok (n, None)) new = TakesAll old piece n new
Takes old piece (Ok (n, Some f)) new = TakesFrame old piece n f new
Takes old piece (Err UnknownType) new = Refuses old piece UnknownType new
Takes old piece (Err OutOfPlace) new = Refuses old piece OutOfPlace new
Takes old piece (Err TooLarge) new = Refuses old piece TooLarge new
Takes old piece (Err TooSmall) new = Refuses old piece TooSmall new
Takes old piece (Err OutOfMemory) new = Starves old piece new
Takes old piece (Err Closed) new = (old.failed ≡ true) × (new ≡ old)

-- ---- a whole stream, at one frame filter

-- the rules of a reader with a constant frame filter: what the filter accepts is taken, and tells
-- of itself
abbrev pub gate_rules : Gate → Rules Frame ℕ
gate_rules gate = record { gate = λ before. gate; reasons = λ before f. []; of_header = λ code. code; tells = λ before f. f ∷ []; over = λ before. false }

-- the state of a reader is that after these bytes, whose frames are these
pub record StandsAfter (reader : Reader) (octets : List ℕ) (frames : List Frame) : Type 0 where
  pub «open» : reader.failed ≡ false
  pub run : Run (gate_rules reader.gate) octets frames reader.held Going

-- these frames of the bytes are followed by a header with this fault
pub record RefusedAfter (gate : Gate) (fault : FrameFault) (octets : List ℕ) (frames : List Frame) : Type 0 where
  pub rest : List ℕ
  pub code : ℕ
  pub code_is : header_code fault ≡ Some code
  pub fault_is : header_fault gate rest ≡ Some fault
  pub run : Run (gate_rules gate) octets frames rest (Stopped code)

-- the outcome for a fragment of a reader in the state after these bytes, and its state then
abbrev pub AnswersFragment : Reader → List ℕ → Result (ℕ × Option Frame) FrameFault → Reader → List ℕ → List Frame → Type 0
AnswersFragment old piece (Ok (n, None)) new octets frames = (n ≡ length piece) × StandsAfter new (octets ++ piece) frames
AnswersFragment old piece (Ok (n, Some f)) new octets frames = (n ≤ length piece) × StandsAfter new (octets ++ take n piece) (frames ++ f ∷ [])
AnswersFragment old piece (Err UnknownType) new octets frames = RefusedAfter old.gate UnknownType (octets ++ piece) frames
AnswersFragment old piece (Err OutOfPlace) new octets frames = RefusedAfter old.gate OutOfPlace (octets ++ piece) frames
AnswersFragment old piece (Err TooLarge) new octets frames = RefusedAfter old.gate TooLarge (octets ++ piece) frames
AnswersFragment old piece (Err TooSmall) new octets frames = RefusedAfter old.gate TooSmall (octets ++ piece) frames
AnswersFragment old piece (Err OutOfMemory) new octets frames = Unit {0}
AnswersFragment old piece (Err Closed) new octets frames = ⊥
