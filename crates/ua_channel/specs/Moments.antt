-- Timestamps that are requested one after the other.
use Rattle.std.specs.Prelude.{◌≡◌, ℤ, pos, List, [], ◌∷◌}

-- these timestamps were given, in this order: their steps lead from the source before to the source
-- after
abbrev pub GivesTimes : {M : Type 0} → (M → ℤ → M → Type 0) → M → List ℤ → M → Type 0
GivesTimes step before [] after = before ≡ after
GivesTimes {M = M} step before (moment ∷ moments) after = (next : M) × step before moment next × GivesTimes step next moments after

-- the first of a list of timestamps, 0 if it is empty
abbrev pub first_moment : List ℤ → ℤ
first_moment [] = pos 0
first_moment (moment ∷ moments) = moment

-- the timestamps after the first; the last one stays
abbrev pub behind_moment : List ℤ → List ℤ
behind_moment [] = []
behind_moment (moment ∷ []) = moment ∷ []
behind_moment (moment ∷ (next ∷ moments)) = next ∷ moments

-- the first of a list is given, and those after it are left
abbrev pub GivesFirst : List ℤ → ℤ → List ℤ → Type 0
GivesFirst before moment after = (moment ≡ first_moment before) × (after ≡ behind_moment before)
