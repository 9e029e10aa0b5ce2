-- The state of an assembler.
use Rattle.std.specs.Prelude.{◌≡◌, ◌≤◌, ◌+◌, ℕ, min, nat_lt, true, false, ◌&&◌, not, length, Option, List, [], ◌∷◌, ◌++◌}
use Rattle.std.specs.List.{concat}
use Rattle.ua_builtin.specs.Reasons.{first_reason}
use Rattle.ua_chunk.specs.declared.assembler.Assembler.{Assembler}
use Rattle.ua_chunk.specs.declared.chunk.Chunk.{Chunk}
use Rattle.ua_chunk.specs.declared.pending.Pending.{Pending}
use Rattle.ua_chunk.specs.declared.flag.Flag.{Flag}
use Rattle.ua_chunk.specs.declared.flag.Flag.TheVariants.{F, C, A}
use Rattle.ua_chunk.specs.declared.fault.AssembleFault.{AssembleFault}
use Rattle.ua_chunk.specs.declared.fault.AssembleFault.TheVariants.{Sequence, Unreadable, TooManyOpen, MessageTooLarge, TooManyChunks}
use Rattle.ua_chunk.specs.Abort.{abort_of, is_readable_abort}
use Rattle.ua_chunk.specs.Delivered.{aborted}
use Rattle.ua_chunk.specs.Flag.{is_more_flag, is_abort_flag}
use Rattle.ua_chunk.specs.Gathered.{filled}
use Rattle.ua_chunk.specs.Item.{Item}
use Rattle.ua_chunk.specs.Item.Item.{Whole}
use Rattle.ua_chunk.specs.Kept.{kept_messages}
use Rattle.ua_chunk.specs.Open.{open_ids}
use Rattle.ua_chunk.specs.Refusal.{passes, most_open, OpenWithin}
use Rattle.ua_chunk.specs.Sequence.{may_follow}

-- the state of the assembler is that after these chunks, and it goes on
pub record Stands (a : Assembler) (cs : List Chunk) : Type 0 where
  pub goes_on : a.closed ≡ false
  pub unfinished : a.pending ≡ kept_messages cs
  pub few : length (open_ids cs) ≤ most_open
  pub within : OpenWithin a.octets cs

-- the assembler takes nothing more, and holds nothing
pub record IsClosed (a : Assembler) : Type 0 where
  pub closed : a.closed ≡ true
  pub empty : a.pending ≡ []

-- the most bytes that a message may have, 0 for any number
abbrev pub octet_limit : Assembler → ℕ
octet_limit a = a.octets

-- the most chunks that a message may have, 0 for any number
abbrev pub chunk_limit : Assembler → ℕ
chunk_limit a = a.chunks

-- the last SequenceNumber, if there was one
abbrev pub last_number : Assembler → Option ℕ
last_number a = a.last

-- the limits stay
pub record SameLimits (a b : Assembler) : Type 0 where
  pub octets : octet_limit a ≡ octet_limit b
  pub chunks : chunk_limit a ≡ chunk_limit b

-- ---- a chunk whose message was taken out, where the assembler has the others

-- why it is rejected
abbrev pub refusal_kept : Assembler → Pending → Chunk → Option AssembleFault
refusal_kept a m c = first_reason (
    (Sequence, not (may_follow a.last c.sequence))
    ∷ (Unreadable, is_abort_flag c.flag && not (is_readable_abort c.body))
    ∷ (TooManyOpen, is_more_flag c.flag && nat_lt 3 (length a.pending))
    ∷ (MessageTooLarge, not (is_abort_flag c.flag) && passes a.octets (length (concat m.message) + length c.body))
    ∷ (TooManyChunks, not (is_abort_flag c.flag) && passes a.chunks (m.chunks + 1))
    ∷ [])

-- its message with it
abbrev pub added : Pending → Chunk → Pending
added m c = record { request = m.request; chunks = min (m.chunks + 1) 4294967295; message = m.message ++ filled (c.body ∷ []) }

-- what the chunk completes, by its flag: an F the bytes of the message with its body, a C nothing,
-- an A its code and reason if they can be decoded
abbrev pub given_kept_by : Flag → Pending → Chunk → List Item
given_kept_by F m c = Whole c.request (concat (m.message ++ filled (c.body ∷ []))) ∷ []
given_kept_by C m c = []
given_kept_by A m c = aborted c.request (abort_of c.body)

-- what it delivers
abbrev pub given_kept : Pending → Chunk → List Item
given_kept m c = given_kept_by c.flag m c

-- what of its message stays unfinished, by its flag: a C leaves the message with its body, an F or
-- an A nothing
abbrev pub put_back_by : Flag → Pending → Chunk → List Pending
put_back_by F m c = []
put_back_by C m c = added m c ∷ []
put_back_by A m c = []

-- what of its message stays unfinished
abbrev pub put_back : Pending → Chunk → List Pending
put_back m c = put_back_by c.flag m c
