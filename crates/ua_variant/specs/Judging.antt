-- Whether a value can be encoded, judged in one walk: its nesting depth, if it can be encoded apart
-- from that.
use Rattle.std.specs.Prelude.{ℕ, Bool, false, leb, min, Option, Some, None}
use Rattle.ua_builtin.specs.Format.{most_levels}
use Rattle.ua_diagnostic.specs.Parts.{when}

-- the nesting depth of what can be encoded apart from it, up to the greatest number of the code;
-- none of what cannot
abbrev pub levels_if : Bool → ℕ → Option ℕ
levels_if fits depth = when fits (Some (min depth 0xFFFFFFFF))

-- there is a nesting depth, and it is at most that of a value that is encoded
abbrev pub is_depth_within : Option ℕ → Bool
is_depth_within None = false
is_depth_within (Some n) = leb n most_levels
