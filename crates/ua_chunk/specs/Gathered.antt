-- The chunks of one message among those of all: those of its RequestId, from after the last F or A
-- of that id (OPC 10000-6, 6.7.2.4: the chunks of a message have one RequestId).
use Rattle.std.specs.Prelude.{ℕ, ◌==◌, Bool, true, false, not, if◌then◌else◌, map, List, [], ◌∷◌, ◌++◌}
use Rattle.std.specs.List.{list_any, filter, flat_map}
use Rattle.ua_chunk.specs.declared.chunk.Chunk.{Chunk}
use Rattle.ua_chunk.specs.Flag.{is_more_flag}

-- the chunk has this RequestId
abbrev pub is_of : ℕ → Chunk → Bool
is_of id c = c.request == id

-- more chunks of its message follow
abbrev pub is_more : Chunk → Bool
is_more c = is_more_flag c.flag

-- its message has no more chunks: an F or an A
abbrev pub ends : Chunk → Bool
ends c = not (is_more_flag c.flag)

-- the elements after the last one that passes, or all if none does
abbrev pub after_last : {X : Type 0} → (X → Bool) → List X → List X
after_last p [] = []
after_last p (x ∷ xs) = if list_any p (x ∷ xs) then after_last p xs else x ∷ xs

-- the chunks of a RequestId after its last F or A
abbrev pub unfinished : ℕ → List Chunk → List Chunk
unfinished id cs = after_last ends (filter (is_of id) cs)

-- the chunks so far of the message of a C or an F that is after these chunks, up to and including
-- it
abbrev pub gathered : List Chunk → Chunk → List Chunk
gathered before c = unfinished c.request before ++ c ∷ []

-- the joined bodies of chunks
abbrev pub joined : List Chunk → List ℕ
joined cs = flat_map (λ c. c.body) cs

-- there are bytes
abbrev pub is_filled : List ℕ → Bool
is_filled [] = false
is_filled (x ∷ b) = true

-- those of the parts that are not empty, in order
abbrev pub filled : List (List ℕ) → List (List ℕ)
filled parts = filter is_filled parts

-- the bodies of chunks that are not empty, in order
abbrev pub bodies : List Chunk → List (List ℕ)
bodies cs = filled (map (λ c. c.body) cs)
