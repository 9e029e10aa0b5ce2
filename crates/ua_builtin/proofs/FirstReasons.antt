-- The first reason of a table that is made of others.
use Rattle.std.proofs.Common.{◌≡◌, List, [], ◌∷◌, ◌++◌, Bool, true, false, Option, Some, None, option_map, refl, sym, ◌∙◌, ap}
use Rattle.std.specs.Prelude.{map, if◌then◌else◌}
use Rattle.ua_builtin.specs.Reasons.{first_reason, or_else, renamed_reason}

either_else : {A : Type 0} (b : Bool) (a : A) (o p : Option A) → or_else (if b then Some a else o) p ≡ (if b then Some a else or_else o p)
either_else true a o p = refl
either_else false a o p = refl

-- one table behind the other
pub first_reason-append : {A : Type 0} (rs ts : List (A × Bool)) → first_reason (rs ++ ts) ≡ or_else (first_reason rs) (first_reason ts)
first_reason-append [] ts = refl
first_reason-append {A = A} (r ∷ rs) ts = ap (λ (o : Option A). if r.1 then Some r.0 else o) (first_reason-append rs ts)
    ∙ sym (either_else r.1 r.0 (first_reason rs) (first_reason ts))

-- where none of the first table holds, it is the first of the second
pub first_behind : {A : Type 0} (rs ts : List (A × Bool)) → first_reason rs ≡ None → first_reason (rs ++ ts) ≡ first_reason ts
first_behind {A = A} rs ts none = first_reason-append rs ts ∙ ap (λ (o : Option A). or_else o (first_reason ts)) none

-- where one of the first table holds, it is the first of both
pub first_among : {A : Type 0} (rs ts : List (A × Bool)) (a : A) → first_reason rs ≡ Some a → first_reason (rs ++ ts) ≡ Some a
first_among {A = A} rs ts a some = first_reason-append rs ts ∙ ap (λ (o : Option A). or_else o (first_reason ts)) some

else_none : {A : Type 0} (o : Option A) → or_else o None ≡ o
else_none None = refl
else_none (Some a) = refl

-- a last reason that doesn't hold changes nothing
pub first_not_last : {A : Type 0} (rs : List (A × Bool)) (a : A) (b : Bool) → b ≡ false → first_reason (rs ++ (a, b) ∷ []) ≡ first_reason rs
first_not_last {A = A} rs a b unset =
    first_reason-append rs ((a, b) ∷ [])
    ∙ (ap (λ (t : Bool). or_else (first_reason rs) (first_reason ((a, t) ∷ []))) unset ∙ else_none (first_reason rs))

either_map : {A B : Type 0} (name : A → B) (b : Bool) (a : A) (o : Option A) → (if b then Some (name a) else option_map name o)
    ≡ option_map name (if b then Some a else o)
either_map name true a o = refl
either_map name false a o = refl

-- the reasons by other names
pub first_reason-map : {A B : Type 0} (name : A → B) (rs : List (A × Bool)) → first_reason (map (renamed_reason name) rs) ≡ option_map name (first_reason rs)
first_reason-map name [] = refl
first_reason-map {B = B} name (r ∷ rs) = ap (λ (o : Option B). if r.1 then Some (name r.0) else o) (first_reason-map name rs)
    ∙ either_map name r.1 r.0 (first_reason rs)
