-- Splitting a body into MessageChunks (OPC 10000-6, 6.7.2): consecutive fragments of it, each but
-- the last as long as the maximum chunk body size, with the flag C but the last with F, numbered in
-- order. So 01 02 03 04 05 with a maximum of 2 is C 01 02, C 03 04, F 05.
use Rattle.std.specs.Prelude.{◌≡◌, ◌≤◌, ◌<◌, ◌*◌, ℕ, zero, suc, nat_eq, nat_lt, if◌then◌else◌, length, take, drop, map, Option, Some, None, List, [], ◌∷◌, ◌++◌}
use Rattle.ua_wire.specs.Format.{Extends}
use Rattle.ua_wire.specs.Number.{number_octets}
use Rattle.ua_frame.specs.Frames.{frames_octets}
use Rattle.ua_frame.specs.Kinds.{kind_octets}
use Rattle.ua_frame.specs.declared.kind.Kind.TheVariants.{Msg}
use Rattle.ua_builtin.specs.Reasons.{first_reason}
use Rattle.ua_chunk.specs.declared.chunk.Chunk.{Chunk}
use Rattle.ua_chunk.specs.declared.fault.CutFault.{CutFault}
use Rattle.ua_chunk.specs.declared.fault.CutFault.TheVariants.{TooManyOctets, TooManyChunks, OutOfMemory}
use Rattle.ua_chunk.specs.declared.flag.Flag.{Flag}
use Rattle.ua_chunk.specs.declared.flag.Flag.TheVariants.{F, C, A}
use Rattle.ua_chunk.specs.declared.lane.Lane.{Lane}
use Rattle.ua_builtin.specs.declared.status_code.StatusCode.{StatusCode}
use Rattle.ua_chunk.specs.Abort.{abort_body}
use Rattle.ua_chunk.specs.Layout.{frame_of, token_header, sequence_header}
use Rattle.ua_chunk.specs.Flag.{flag_octet}
use Rattle.ua_chunk.specs.Refusal.{passes}
use Rattle.ua_chunk.specs.Sequence.{next_number}

-- at most n consecutive fragments of k bytes, the last one of 1 to k
abbrev pub pieces_in : ℕ → ℕ → List ℕ → List (List ℕ)
pieces_in zero k b = []
pieces_in (suc n) k b = if nat_lt k (length b) then take k b ∷ pieces_in n k (drop k b) else b ∷ []

-- bytes that are not empty as consecutive fragments of k bytes and a last one of 1 to k
unfoldable pub pieces : ℕ → List ℕ → List (List ℕ)
pieces k b = pieces_in (length b) k b

-- each of the fragments has k bytes, but the last one, which has 1 to k
abbrev pub AreFull : ℕ → List (List ℕ) → Type 0
AreFull k [] = ⊥
AreFull k (p ∷ []) = (0 < length p) × (length p ≤ k)
AreFull k (p ∷ (q ∷ ps)) = (length p ≡ k) × AreFull k (q ∷ ps)

-- the flag of a chunk with these fragments after it
abbrev pub flag_before : List (List ℕ) → Flag
flag_before [] = F
flag_before (p ∷ ps) = C

-- the chunk of a lane with this flag, SequenceNumber, RequestId and body
abbrev pub chunk_of : Lane → Flag → ℕ → ℕ → List ℕ → Chunk
chunk_of lane f s id b = record { channel = lane.channel; token = lane.token; flag = f; sequence = s; request = id; body = b }

-- the A chunk of a lane that aborts a message with this code and a null reason (OPC 10000-6, 6.7.3)
abbrev pub abort_chunk : Lane → ℕ → ℕ → StatusCode → Chunk
abort_chunk lane s id code = chunk_of lane A s id (abort_body.canonical (code, None))

-- one chunk for each fragment, all C but the last, which is F, numbered from s
abbrev pub numbered : Lane → ℕ → ℕ → List (List ℕ) → List Chunk
numbered lane s id [] = []
numbered lane s id (p ∷ ps) = chunk_of lane (flag_before ps) s id p ∷ numbered lane (next_number s) id ps

-- the chunks of a body, of the maximum chunk body size, numbered from s
abbrev pub chunks_of : Lane → List ℕ → ℕ → ℕ → List Chunk
chunks_of lane b s id = numbered lane s id (pieces lane.room b)

-- the bytes of chunks of messages, frame after frame
abbrev pub chunks_octets : List Chunk → List ℕ
chunks_octets cs = frames_octets (map frame_of cs)

-- the bytes of a chunk of a message before its body, if its frame has this size
abbrev pub front_octets : Lane → Flag → ℕ → ℕ → ℕ → List ℕ
front_octets lane flag size s id =
    kind_octets Msg
    ++ flag_octet flag
    ∷ (number_octets 4 size ++ (token_header.canonical (lane.channel, lane.token) ++ sequence_header.canonical (s, id)))

-- the number after as many chunks as there are fragments
abbrev pub number_after : ℕ → List (List ℕ) → ℕ
number_after s [] = s
number_after s (p ∷ ps) = number_after (next_number s) ps

-- why a body is not split: the first reason that holds
abbrev pub cut_refusal : Lane → List ℕ → Option CutFault
cut_refusal lane b = first_reason (
    (TooManyOctets, passes lane.octets (length b))
    ∷ (TooManyChunks, passes lane.chunks (length (pieces lane.room b)))
    ∷ [])

-- the bytes of this many fragments of a size, the most that this limit allows; 0 is no limit
abbrev pub limit_of : ℕ → ℕ → Option ℕ
limit_of limit size = if nat_eq limit 0 then None else Some (limit * size)

-- the lesser of two limits, if there are both
abbrev pub least : Option ℕ → Option ℕ → Option ℕ
least None other = other
least (Some n) None = Some n
least (Some n) (Some m) = if nat_lt n m then Some n else Some m

-- the most bytes that a body may have: those that the receiver takes, and those that fit into its
-- chunks
unfoldable pub most_octets : Lane → Option ℕ
most_octets lane = least (limit_of lane.octets 1) (limit_of lane.chunks lane.room)

-- this number is within a limit, if there is one
abbrev pub IsAtMost : ℕ → Option ℕ → Type 0
IsAtMost n None = Unit {0}
IsAtMost n (Some most) = n ≤ most

-- the fault is this reason, or an allocation failed if there is no reason
abbrev pub IsCutFor : Option CutFault → CutFault → Type 0
IsCutFor reason TooManyOctets = reason ≡ Some TooManyOctets
IsCutFor reason TooManyChunks = reason ≡ Some TooManyChunks
IsCutFor reason OutOfMemory = reason ≡ None

-- a body is split up to these rest bytes: the content of out followed by the chunks of the rest is
-- the final content
pub record CutSoFar (lane : Lane) (id : ℕ) (body : List ℕ) (from : ℕ) (before : List ℕ) (rest : List ℕ) (number : ℕ) (out : List ℕ) : Type 0 where
  pub parts : out ++ chunks_octets (chunks_of lane rest number id) ≡ before ++ chunks_octets (chunks_of lane body from id)
  pub after : number_after number (pieces lane.room rest) ≡ number_after from (pieces lane.room body)
  pub some : 0 < length rest
  pub small : number ≤ 4294966272
  pub extends : Extends before out
