-- Which chunks are rejected, and why: the reasons in the order in which they are judged.
use Rattle.std.specs.Prelude.{◌≡◌, ◌≤◌, ℕ, ◌==◌, nat_lt, Bool, false, ◌&&◌, not, length, Option, Some, None, List, [], ◌∷◌, ◌++◌}
use Rattle.ua_frame.specs.After.{AllFrom}
use Rattle.ua_builtin.specs.Reasons.{first_reason}
use Rattle.ua_chunk.specs.declared.chunk.Chunk.{Chunk}
use Rattle.ua_chunk.specs.declared.fault.AssembleFault.{AssembleFault}
use Rattle.ua_chunk.specs.declared.fault.AssembleFault.TheVariants.{Sequence, Unreadable, TooManyOpen, MessageTooLarge, TooManyChunks, OutOfMemory, Closed}
use Rattle.ua_chunk.specs.Abort.{is_readable_abort}
use Rattle.ua_chunk.specs.Flag.{is_abort_flag}
use Rattle.ua_chunk.specs.Gathered.{unfinished, gathered, joined}
use Rattle.ua_chunk.specs.Open.{open_ids}
use Rattle.ua_chunk.specs.Sequence.{may_follow}

-- n exceeds the limit; 0 is no limit
abbrev pub passes : ℕ → ℕ → Bool
passes limit n = not (limit == 0) && nat_lt limit n

-- the most messages that may be unfinished
abbrev pub most_open : ℕ
most_open = 4

-- what may be wrong with the message of a chunk that is after these chunks, in the order in which
-- it is judged
--   Unreadable         the body of an A is not a code and a reason alone (6.7.3)
--   TooManyOpen        more messages would be unfinished than may be
--   MessageTooLarge    the bodies of the message with this one have more bytes than the receiver
--                      takes (7.1.2.3, MaxMessageSize)
--   TooManyChunks      the message has more chunks with this one than the receiver takes (7.1.2.3,
--                      MaxChunkCount)
abbrev pub message_reasons : ℕ → ℕ → List Chunk → Chunk → List (AssembleFault × Bool)
message_reasons octets chunks cs c =
    (Unreadable, is_abort_flag c.flag && not (is_readable_abort c.body))
    ∷ (TooManyOpen, nat_lt most_open (length (open_ids (cs ++ c ∷ []))))
    ∷ (MessageTooLarge, not (is_abort_flag c.flag) && passes octets (length (joined (gathered cs c))))
    ∷ (TooManyChunks, not (is_abort_flag c.flag) && passes chunks (length (gathered cs c)))
    ∷ []

-- why a chunk may be rejected that is after these chunks and this last number, in the order in
-- which it is judged
--   Sequence           its SequenceNumber does not follow the last one (6.7.2.4)
--   and then what may be wrong with its message
abbrev pub reasons : ℕ → ℕ → Option ℕ → List Chunk → Chunk → List (AssembleFault × Bool)
reasons octets chunks last cs c = (Sequence, not (may_follow last c.sequence)) ∷ message_reasons octets chunks cs c

-- why the chunk is rejected, whatever its number: the first of the reasons in its message that
-- holds
abbrev pub message_refusal : ℕ → ℕ → List Chunk → Chunk → Option AssembleFault
message_refusal octets chunks cs c = first_reason (message_reasons octets chunks cs c)

-- why the chunk is rejected: the first reason that holds
abbrev pub chunk_refusal : ℕ → ℕ → Option ℕ → List Chunk → Chunk → Option AssembleFault
chunk_refusal octets chunks last cs c = first_reason (reasons octets chunks last cs c)

-- the fault is this reason, or an allocation failed if there is no reason
abbrev pub IsFor : Option AssembleFault → AssembleFault → Type 0
IsFor reason Sequence = reason ≡ Some Sequence
IsFor reason Unreadable = reason ≡ Some Unreadable
IsFor reason TooManyOpen = reason ≡ Some TooManyOpen
IsFor reason MessageTooLarge = reason ≡ Some MessageTooLarge
IsFor reason TooManyChunks = reason ≡ Some TooManyChunks
IsFor reason OutOfMemory = reason ≡ None
IsFor reason Closed = ⊥

-- none of the chunks is rejected after those before it
abbrev pub TakesAllChunks : ℕ → ℕ → Option ℕ → List Chunk → List Chunk → Type 0
TakesAllChunks octets chunks last before [] = Unit {0}
TakesAllChunks octets chunks last before (c ∷ cs) =
    (chunk_refusal octets chunks last before c ≡ None) × TakesAllChunks octets chunks (Some c.sequence) (before ++ c ∷ []) cs

-- none of the chunks is rejected for its message after those before it, whatever their numbers
abbrev pub TakesMessages : ℕ → ℕ → List Chunk → List Chunk → Type 0
TakesMessages octets chunks before cs = AllFrom (λ us c. message_refusal octets chunks us c ≡ None) before cs

-- after each of the chunks, after those before it, few messages are unfinished
abbrev pub FewOpen : List Chunk → List Chunk → Type 0
FewOpen before cs = AllFrom (λ us c. length (open_ids (us ++ c ∷ [])) ≤ most_open) before cs

-- what came of each unfinished message is within the limit of bytes
abbrev pub OpenWithin : ℕ → List Chunk → Type 0
OpenWithin octets cs = (id : ℕ) → passes octets (length (joined (unfinished id cs))) ≡ false
