-- The first element of a list that passes a test, by its place.
use Rattle.std.proofs.Common.{◌≡◌, ℕ, suc, ◌+◌, Bool, true, false, cond, List, [], ◌∷◌, Option, Some, None, refl, sym, ◌∙◌, ap, arith}
use Rattle.std.specs.Prelude.{slice_index_or}
use Rattle.std.specs.List.{remove, position, position_from}
use Rattle.std.proofs.lemmas.Iterator.Adapters.{position_from-zero}
use Rattle.ua_chunk.specs.Pending.{first_of, without}

-- x stands at place k, counted from i, and rest is the list without it
pub record Found {X : Type 0} (i k : ℕ) (xs rest : List X) (x : X) : Type 0 where
  pub place : ℕ
  pub is : k ≡ i + place
  pub removed : remove xs place ≡ rest
  pub found : (e : X) → slice_index_or xs place e ≡ x

same_some : (i k : ℕ) → ◌≡◌ {A = Option ℕ} (Some i) (Some k) → k ≡ i + 0
same_some i k e = let s : i ≡ k = cc in omega arith

found_step : {X : Type 0} (b : Bool) (i k : ℕ) (x f : X) (xs rest : List X) (o : Option ℕ) → cond b (Some i) o ≡ Some k
    → (o ≡ Some k → Found (i + 1) k xs rest f) → Found i k (x ∷ xs) (cond b xs (x ∷ rest)) (cond b x f)
found_step true i k x f xs rest o e h = record { place = 0; is = same_some i k e; removed = refl; found = λ e. refl }
found_step false i k x f xs rest o e h =
    let g = h e in
    record { place = suc g.place; is = omega (arith, g.is); removed = ap (λ t. x ∷ t) g.removed; found = g.found }

found_from : {X : Type 0} (p : X → Bool) (d : X) (i k : ℕ) (xs : List X) → position_from p i xs ≡ Some k → Found i k xs (without p xs) (first_of p d xs)
found_from p d i k [] e = absurd cc
found_from p d i k (x ∷ xs) e = found_step (p x) i k x (first_of p d xs) xs (without p xs) (position_from p (i + 1) xs) e (found_from p d (i + 1) k xs)

missing_step : {X : Type 0} (b : Bool) (i : ℕ) (x f d : X) (xs rest : List X) (o : Option ℕ) → cond b (Some i) o ≡ None → (o ≡ None → (rest ≡ xs) × (f ≡ d))
    → (cond b xs (x ∷ rest) ≡ x ∷ xs) × (cond b x f ≡ d)
missing_step true i x f d xs rest o e h = absurd cc
missing_step false i x f d xs rest o e h = let g = h e in (ap (λ t. x ∷ t) g.0, g.1)

missing_from : {X : Type 0} (p : X → Bool) (d : X) (i : ℕ) (xs : List X) → position_from p i xs ≡ None → (without p xs ≡ xs) × (first_of p d xs ≡ d)
missing_from p d i [] e = (refl, refl)
missing_from p d i (x ∷ xs) e = missing_step (p x) i x (first_of p d xs) d xs (without p xs) (position_from p (i + 1) xs) e (missing_from p d (i + 1) xs)

pub missing : {X : Type 0} (p : X → Bool) (d : X) (xs : List X) → position p xs ≡ None → (without p xs ≡ xs) × (first_of p d xs ≡ d)
missing p d xs e = missing_from p d 0 xs (sym (position_from-zero p xs) ∙ e)

pub found_at : {X : Type 0} (p : X → Bool) (d : X) (xs : List X) (k : ℕ) → position p xs ≡ Some k → Found 0 k xs (without p xs) (first_of p d xs)
found_at p d xs k e = found_from p d 0 k xs (sym (position_from-zero p xs) ∙ e)

-- the element there
pub found_value : {X : Type 0} (p : X → Bool) (d x : X) (xs : List X) (k : ℕ) → position p xs ≡ Some k → x ≡ slice_index_or xs k x → x ≡ first_of p d xs
found_value p d x xs k e h =
    let f = found_at p d xs k e in
    let same : k ≡ f.place = omega (arith, f.is) in
    h ∙ ap (λ j. slice_index_or xs j x) same ∙ f.found x

-- the others
pub found_rest : {X : Type 0} (p : X → Bool) (d : X) (xs : List X) (k : ℕ) → position p xs ≡ Some k → remove xs k ≡ without p xs
found_rest p d xs k e =
    let f = found_at p d xs k e in
    let same : k ≡ f.place = omega (arith, f.is) in
    ap (λ j. remove xs j) same ∙ f.removed
