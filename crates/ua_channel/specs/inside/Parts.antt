-- What the parts of either end take, and return.
use Rattle.std.specs.Prelude.{ℕ, ◌<◌, ◌≤◌, length, List, Option, Some, None, IsTrue}
use Rattle.ua_frame.specs.declared.frame.Frame.{Frame}
use Rattle.ua_frame.specs.Frames.{frame_size}
use Rattle.ua_frame.specs.Kinds.{has_flag, least_size}
use Rattle.ua_chunk.specs.declared.chunk.Chunk.{Chunk}
use Rattle.ua_channel.specs.Content.{Content}
use Rattle.ua_chunk.specs.declared.delivered.Delivered.{Delivered}
use Rattle.ua_chunk.specs.declared.delivered.Delivered.TheVariants.{Whole, Aborted}
use Rattle.ua_channel.specs.MessageParts.{EndsMessageIn}
use Rattle.ua_channel.specs.declared.end_fault.EndFault.{EndFault}
use Rattle.ua_channel.specs.declared.end_fault.EndFault.TheVariants.{Refused, Peer, OutOfMemory, Closed}

-- a frame whose flag and size are those of its kind, as is each one that a reader returns
pub record HasShape (f : Frame) : Type 0 where
  pub flag : IsTrue (has_flag f.kind f.flag)
  pub least : least_size f.kind ≤ frame_size f

-- a frame with this content, after these chunks, ends a message in these parts, if one is returned
abbrev pub MayEndIn : List Chunk → Content → Option (List (List ℕ)) → Type 0
MayEndIn before c None = Unit {0}
MayEndIn before c (Some parts) = EndsMessageIn before c parts

-- the parts of what an assembler returns, if it is a whole message
abbrev pub parts_in : Option Delivered → Option (List (List ℕ))
parts_in None = None
parts_in (Some (Whole id message)) = Some message
parts_in (Some (Aborted id code reason)) = None

-- ---- faults

-- a fault of a part of an end: this holds of the code with which the end rejects, or of the code
-- with which an ERR tells that the server does, or an allocation failed
abbrev pub IsFaultFor : (ℕ → Type 0) → (ℕ → Type 0) → EndFault → Type 0
IsFaultFor Refuses ServerRefuses (Refused code) = Refuses code.code
IsFaultFor Refuses ServerRefuses (Peer code) = ServerRefuses code.code
IsFaultFor Refuses ServerRefuses OutOfMemory = Unit {0}
IsFaultFor Refuses ServerRefuses Closed = ⊥

-- ---- fragments

-- this many bytes of a fragment are within it, and some unless it is empty
abbrev pub IsWithinPiece : List ℕ → ℕ → Type 0
IsWithinPiece piece n = (n ≤ length piece) × (0 < length piece → 0 < n)
