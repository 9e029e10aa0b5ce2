-- The messages that a list of chunks leaves unfinished: those whose last chunk is a C.
use Rattle.std.specs.Prelude.{ℕ, ◌&&◌, not, if◌then◌else◌, length, List, [], ◌∷◌}
use Rattle.std.specs.List.{list_any, sum_by}
use Rattle.ua_chunk.specs.declared.chunk.Chunk.{Chunk}
use Rattle.ua_chunk.specs.Gathered.{is_of, is_more, unfinished, joined}

-- the RequestIds with an unfinished message, those whose last chunk is a C, in the order of these
-- last chunks
abbrev pub open_ids : List Chunk → List ℕ
open_ids [] = []
open_ids (c ∷ cs) = if is_more c && not (list_any (is_of c.request) cs) then c.request ∷ open_ids cs else open_ids cs

-- the number of bytes of all unfinished messages so far
abbrev pub open_octets : List Chunk → ℕ
open_octets cs = sum_by (λ id. length (joined (unfinished id cs))) (open_ids cs)
