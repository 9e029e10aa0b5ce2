-- What an assembler keeps of the unfinished messages of a list of chunks.
use Rattle.std.specs.Prelude.{ℕ, min, map, length, List}
use Rattle.ua_chunk.specs.declared.chunk.Chunk.{Chunk}
use Rattle.ua_chunk.specs.declared.pending.Pending.{Pending}
use Rattle.ua_chunk.specs.Gathered.{unfinished, bodies}
use Rattle.ua_chunk.specs.Open.{open_ids}

-- what is kept of these chunks of a RequestId: their bodies in order; the count stops at its type's
-- greatest number
abbrev pub kept : ℕ → List Chunk → Pending
kept id cs = record { request = id; chunks = min (length cs) 4294967295; message = bodies cs }

-- what is kept of the unfinished messages
abbrev pub kept_messages : List Chunk → List Pending
kept_messages cs = map (λ id. kept id (unfinished id cs)) (open_ids cs)
