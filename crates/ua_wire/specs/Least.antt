-- The minimum size of an encoding in bytes.
use Rattle.std.specs.Prelude.{ℕ, ◌≤◌, List, length}

-- each encoding takes this many bytes at least
abbrev pub TakesLeast : {A : Type 0} → ℕ → (A → List ℕ → Type 0) → Type 0
TakesLeast {A = A} least encodes = (v : A) (b : List ℕ) → encodes v b → least ≤ length b
