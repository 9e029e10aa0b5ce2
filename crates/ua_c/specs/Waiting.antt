-- Bytes that wait to be fetched.
use Rattle.std.specs.Prelude.{◌≡◌, ℕ, List, ◌++◌, length, min, take, drop, Option, Some, None, Result, Ok, Err}
use Rattle.std.specs.List.{concat}
use Rattle.std.specs.declared.alloc.AllocError.{AllocError}

-- the bytes of a message, if there is one, else these
abbrev pub waiting : Option (List (List ℕ)) → List ℕ → List ℕ
waiting None octets = octets
waiting (Some parts) octets = concat parts

-- as many bytes as fit go to the start of a buffer, whose rest is unchanged; the others wait
abbrev pub FillsBuffer : List ℕ → List ℕ → List ℕ → List ℕ → ℕ → Type 0
FillsBuffer old new before after count = (count ≡ min (length old) (length before)) × (after ≡ take count old ++ drop count before) × (new ≡ drop count old)

-- the same, or an allocation failed and nothing changed
abbrev pub Fetches : List ℕ → List ℕ → List ℕ → List ℕ → Result ℕ AllocError → Type 0
Fetches old new before after (Ok count) = FillsBuffer old new before after count
Fetches old new before after (Err e) = (new ≡ old) × (after ≡ before)
