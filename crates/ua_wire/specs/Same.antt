-- When texts and bytes that may be null are equal, and what a hash reads of them.
use Rattle.std.specs.Prelude.{ℕ, List, Bool, Option, nat_eq}
use Rattle.std.specs.Option.{option_eq}
use Rattle.std.specs.Cmp.Lexicographic.{pointwise}
use Rattle.std.specs.Hash.{HashWrites, option, slice, str, u8}

-- both are null, or the same bytes
abbrev pub is_same : Option (List ℕ) → Option (List ℕ) → Bool
is_same = option_eq (pointwise nat_eq)

-- what a hasher reads of bytes, or of null
abbrev pub octets_hashed : Option (List ℕ) → HashWrites
octets_hashed = option (slice u8)

-- what a hasher reads of a text, or of null
abbrev pub text_hashed : Option (List ℕ) → HashWrites
text_hashed = option str
