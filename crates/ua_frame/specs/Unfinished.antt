-- An incomplete frame, as it is kept, and what a fragment makes of it.
use Rattle.std.specs.Prelude.{◌≡◌, ℕ, ◌+◌, ◌<◌, ◌≤◌, ◌⊎◌, List, [], ◌++◌, Option, Some, None, Result, Ok, Err, length, take}
use Rattle.ua_frame.specs.declared.fault.FrameFault.{FrameFault}
use Rattle.ua_frame.specs.declared.fault.FrameFault.TheVariants.{OutOfMemory}
use Rattle.ua_frame.specs.declared.frame.Frame.{Frame}
use Rattle.ua_frame.specs.declared.gate.Gate.{Gate}
use Rattle.ua_frame.specs.declared.unfinished.Unfinished.{Unfinished}
use Rattle.ua_frame.specs.Frames.{frame_octets, IsSized, LetsIn, header_fault, size_of, IsPartial, IsRawFrame}

-- the bytes that are present
abbrev pub octets_of : Unfinished → List ℕ
octets_of u = take u.have u.header ++ u.body.items

-- nothing follows an incomplete header; a complete one is good, and its frame is incomplete
pub record IsIncompleteFrame (u : Unfinished) : Type 0 where
  pub eight : length u.header ≡ 8
  pub fits : u.have ≤ 8
  pub short : u.have < 8 → u.body.items ≡ []
  pub good : u.have ≡ 8 → header_fault u.gate u.header ≡ None
  pub part : u.have ≡ 8 → 8 + length u.body.items < size_of u.header

-- the first n bytes of a fragment are as long as their header tells, and nothing is wrong with it
pub record BeginsWhole (gate : Gate) (piece : List ℕ) (n : ℕ) : Type 0 where
  pub within : n ≤ length piece
  pub raw : IsRawFrame (take n piece)
  pub good : header_fault gate (take n piece) ≡ None

-- the bytes that are there and the first n of a fragment are a frame that the frame filter accepts
pub record Completes (gate : Gate) (old piece : List ℕ) (n : ℕ) (f : Frame) : Type 0 where
  pub some : 0 < n
  pub within : n ≤ length piece
  pub octets : old ++ take n piece ≡ frame_octets f
  pub sized : IsSized f
  pub let_in : LetsIn gate f

-- a header is there: it is rejected, or an allocation failed for what follows it
pub record Fails (gate : Gate) (octets : List ℕ) (fault : FrameFault) : Type 0 where
  pub header : 8 ≤ length octets
  pub why : (header_fault gate octets ≡ Some fault) ⊎ ((fault ≡ OutOfMemory) × (header_fault gate octets ≡ None))

-- what a fragment makes of the bytes that are there, and the bytes that are there then
abbrev pub Makes : Gate → List ℕ → List ℕ → Result (ℕ × Option Frame) FrameFault → List ℕ → Type 0
Makes gate old piece (Ok (n, None)) new = (n ≡ length piece) × (new ≡ old ++ piece) × IsPartial gate (old ++ piece)
Makes gate old piece (Ok (n, Some f)) new = Completes gate old piece n f × (new ≡ [])
Makes gate old piece (Err fault) new = Fails gate (old ++ piece) fault × (new ≡ [])
