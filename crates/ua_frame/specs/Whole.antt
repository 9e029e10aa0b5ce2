-- Values whose encoding is the whole of some bytes.
use Rattle.std.specs.Prelude.{ℕ, List, [], ◌∷◌, Option, Some, None}
use Rattle.ua_builtin.specs.Format.{Flat}

-- the value that was read, if no bytes are left after it
abbrev pub if_nothing_left : {A : Type 0} → Option (A × List ℕ) → Option A
if_nothing_left None = None
if_nothing_left (Some (v, [])) = Some v
if_nothing_left (Some (v, x ∷ rest)) = None

-- the value whose encoding is the whole of the bytes, if there is one
unfoldable pub whole_of : {A : Type 0} → Flat A → List ℕ → Option A
whole_of f octets = if_nothing_left (f.decode octets)
