-- What was decoded can be encoded again: what this means for a format.
use Rattle.std.specs.Prelude.{List, Bool, true, Option, Some, None}
use Rattle.std.specs.List.{list_all}

-- each item passes the test; a null array has none
abbrev pub array_all : {A : Type 0} → (A → Bool) → Option (List A) → Bool
array_all test None = true
array_all test (Some v) = list_all test v
