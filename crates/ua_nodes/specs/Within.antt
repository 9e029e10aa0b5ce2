-- Results that are appended one after the other until there are more bytes than a limit.
use Rattle.std.specs.Prelude.{◌≡◌, ◌<◌, ◌≤◌, ◌⊎◌, ◌++◌, ℕ, length, take, List, Option, Some, None}
use Rattle.std.specs.List.{flat_map}

-- this number exceeds the limit, if there is one
abbrev pub Passes : Option ℕ → ℕ → Type 0
Passes None n = ⊥
Passes (Some most) n = most < n

-- what is there, followed by the bytes of the first n of some things
abbrev pub with_octets_of_first : {A : Type 0} → (A → List ℕ) → List A → List ℕ → ℕ → List ℕ
with_octets_of_first octets_of things old n = old ++ flat_map octets_of (take n things)

-- with fewer of them than these the limit is not exceeded
abbrev pub NonePassBefore : {A : Type 0} → Option ℕ → (A → List ℕ) → List A → List ℕ → ℕ → Type 0
NonePassBefore most octets_of things old count = (n : ℕ) → n < count → Passes most (length (with_octets_of_first octets_of things old n)) → ⊥

-- the bytes of things are appended up to the first after which they exceed the limit, else of all
pub record IsWithin {A : Type 0} (most : Option ℕ) (octets_of : A → List ℕ) (things : List A) (old new : List ℕ) : Type 0 where
  pub count : ℕ
  pub some : count ≤ length things
  pub are : new ≡ with_octets_of_first octets_of things old count
  pub first : NonePassBefore most octets_of things old count
  pub ends : (count ≡ length things) ⊎ Passes most (length new)
