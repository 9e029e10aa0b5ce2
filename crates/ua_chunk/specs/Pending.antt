-- What an assembler keeps, as a list, and the first of a list that passes a test.
use Rattle.std.specs.Prelude.{ℕ, ◌==◌, Bool, if◌then◌else◌, length, List, [], ◌∷◌}
use Rattle.std.specs.List.{concat, sum_by}
use Rattle.ua_chunk.specs.declared.pending.Pending.{Pending}

-- the first that passes, or d
abbrev pub first_of : {X : Type 0} → (X → Bool) → X → List X → X
first_of p d [] = d
first_of p d (x ∷ xs) = if p x then x else first_of p d xs

-- the list without the first that passes
abbrev pub without : {X : Type 0} → (X → Bool) → List X → List X
without p [] = []
without p (x ∷ xs) = if p x then xs else x ∷ without p xs

-- nothing has come under this RequestId
abbrev pub nothing_of : ℕ → Pending
nothing_of id = record { request = id; chunks = 0; message = [] }

-- the message has this RequestId
abbrev pub is_under : ℕ → Pending → Bool
is_under id m = m.request == id

-- what came under a RequestId
abbrev pub message_under_id : ℕ → List Pending → Pending
message_under_id id ms = first_of (is_under id) (nothing_of id) ms

-- the bytes of all these messages
abbrev pub octets_in : List Pending → ℕ
octets_in ms = sum_by (λ m. length (concat m.message)) ms
