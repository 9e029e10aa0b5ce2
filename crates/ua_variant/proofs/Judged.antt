-- What the walk that judges a value in one go knows.
use Rattle.std.proofs.Common.{◌≡◌, ℕ, min, Bool, true, false, Some, None, refl}
use Rattle.ua_variant.specs.Judging.{levels_if}

-- levels are those of what can be written
pub levels_some : (fits : Bool) (d n : ℕ) → levels_if fits d ≡ Some n → (fits ≡ true) × (n ≡ min d 4294967295)
levels_some true d n e = (refl, cc)
levels_some false d n e = absurd cc

-- none, of what can't
pub levels_none : (fits : Bool) (d : ℕ) → levels_if fits d ≡ None → fits ≡ false
levels_none true d e = absurd cc
levels_none false d e = refl
