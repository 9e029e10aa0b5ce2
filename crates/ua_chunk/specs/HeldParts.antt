-- The parts of a message, wherever they are stored: one alone in the message itself, or several in
-- memory of their own.
use Rattle.std.specs.Prelude.{ℕ, List, [], ◌∷◌}
use Rattle.ua_chunk.specs.declared.held_parts.HeldParts.{HeldParts}
use Rattle.ua_chunk.specs.declared.held_parts.HeldParts.TheVariants.{None, One, Several}

-- the parts, in order
abbrev pub held_parts : HeldParts → List (List ℕ)
held_parts None = []
held_parts (One part) = part ∷ []
held_parts (Several parts) = parts.items
