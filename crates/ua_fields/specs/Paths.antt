-- Paths, as they are kept while lines are made.
use Rattle.std.specs.Prelude.{ℕ, List, string_bytes}
use Rattle.ua_fields.specs.declared.path.PathText.{PathText}
use Rattle.ua_fields.specs.declared.path.PathText.TheVariants.{Short, Long}

-- the bytes of a path
abbrev pub path_octets : PathText → List ℕ
path_octets (Short text) = text.bytes
path_octets (Long text) = string_bytes text
