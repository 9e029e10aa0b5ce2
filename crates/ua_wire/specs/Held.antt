-- The bytes of a text, wherever they are stored: in the value itself, or in memory of their own.
use Rattle.std.specs.Prelude.{ℕ, List, Option, Some, None, string_bytes}
use Rattle.ua_wire.specs.declared.text.Held.{Held}
use Rattle.ua_wire.specs.declared.text.Held.TheVariants.{Null, Short, Long}

-- the text, or none for null
abbrev pub held_text : Held → Option (List ℕ)
held_text Null = None
held_text (Short text) = Some text
held_text (Long text) = Some (string_bytes text)
