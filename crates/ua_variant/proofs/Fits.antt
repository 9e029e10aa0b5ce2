-- What a loop over a row knows of what can be written.
use Rattle.std.proofs.Common.{◌≡◌, ◌≢◌, ℕ, ◌+◌, ◌<◌, Bool, true, false, ◌&&◌, eqb, List, length, get_or, take, map, refl, sym, ap, ◌∙◌, arith}
use Rattle.std.proofs.lemmas.Grind.{common_steps}
use Rattle.std.proofs.lemmas.List.Recursion.{and_push, and_fails_at, and_at}
use Rattle.ua_variant.specs.Data.{ScalarData}
use Rattle.ua_variant.specs.Encodable.{scalars_fit, scalar_fits, kind_of_scalar}
use Rattle.ua_variant.specs.View.{scalar_of, row}
use Rattle.ua_variant.specs.declared.values.Scalar.{Scalar}
use Rattle.ua_variant.proofs.Rows.{seen, seen_next}

abbrev fit : ℕ → ScalarData → Bool
fit k s = eqb (kind_of_scalar s) k && scalar_fits s

pub fit_after : (k : ℕ) (ss : List Scalar) (i : ℕ) (s : Scalar) → i < length ss → s ≡ get_or ss i s
    → scalars_fit k (row (seen (take (i + 1) ss))) ≡ (scalars_fit k (row (seen (take i ss))) && fit k (scalar_of s))
fit_after k ss i s h is =
    ap (λ xs. scalars_fit k (row xs)) (seen_next ss i s h) ∙ and_push (λ xs. scalars_fit k (row xs)) (fit k) refl (λ _ _. refl) (seen (take i ss))
    (scalar_of (get_or ss i s))
    ∙ ap (λ x. scalars_fit k (row (seen (take i ss))) && fit k (scalar_of x)) (sym is)

fit_fails_here : (k : ℕ) (ss : List Scalar) (i : ℕ) (d : Scalar) → i < length ss → fit k (scalar_of (get_or ss i d)) ≡ false
    → scalars_fit k (row (map scalar_of ss)) ≡ false
fit_fails_here k ss i d h refused = and_fails_at (λ xs. scalars_fit k (row (map scalar_of xs))) (λ x. fit k (scalar_of x)) refl (λ _ _. refl) ss i d h refused

pub fit_fails : (k : ℕ) (ss : List Scalar) (i : ℕ) (s : Scalar) (all : List ScalarData) → map scalar_of ss ≡ all → i < length ss → s ≡ get_or ss i s
    → fit k (scalar_of s) ≡ false → scalars_fit k (row all) ≡ false
fit_fails k ss i s all e h is refused = ap (λ xs. scalars_fit k (row xs)) (sym e) ∙ fit_fails_here k ss i s h (ap (λ x. fit k (scalar_of x)) (sym is) ∙ refused)

pub other_kind : (a b : ℕ) → a ≢ b → eqb a b ≡ false
other_kind a b h = Prim.grind (arith, common_steps)

pub same_kind : (a b : ℕ) → a ≡ b → eqb a b ≡ true
same_kind a b h = Prim.grind (arith, common_steps)

pub and_false : (a b : Bool) → b ≡ false → (a && b) ≡ false
and_false true b h = h
and_false false b h = refl

pub and_second : (a b : Bool) → (a && b) ≡ true → b ≡ true
and_second true b h = h
and_second false b h = absurd (let x : false ≡ true = h in cc)

pub fits_within : (k : ℕ) (ss : List Scalar) (i : ℕ) (s : Scalar) (all : List ScalarData) → map scalar_of ss ≡ all → i < length ss → s ≡ get_or ss i s
    → scalars_fit k (row all) ≡ true → scalar_fits (scalar_of s) ≡ true
fits_within k ss i s all e h is good =
    let here = and_at (λ xs. scalars_fit k (row (map scalar_of xs))) (λ x. fit k (scalar_of x)) refl (λ _ _. refl) ss i s h (ap (λ xs. scalars_fit k (row xs)) e
    ∙ good) in
    and_second (eqb (kind_of_scalar (scalar_of s)) k) (scalar_fits (scalar_of s)) (ap (λ x. fit k (scalar_of x)) is ∙ here)
