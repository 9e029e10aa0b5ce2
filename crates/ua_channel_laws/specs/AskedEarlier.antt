-- Client operations at earlier places.
use Rattle.std.specs.Prelude.{◌≡◌, ◌≤◌, List, [], ◌∷◌}
use Rattle.ua_channel.specs.Asks.{Placed}

-- the first list has the operations of the second, in their order, each at its place or at an
-- earlier one
abbrev pub AreEarlier : List Placed → List Placed → Type 0
AreEarlier [] [] = Unit {0}
AreEarlier [] (b ∷ asks) = ⊥
AreEarlier (a ∷ earlier) [] = ⊥
AreEarlier (a ∷ earlier) (b ∷ asks) = (a.0 ≤ b.0) × (a.1 ≡ b.1) × AreEarlier earlier asks
