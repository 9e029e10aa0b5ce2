-- One more element of a row.
use Rattle.std.proofs.Common.{◌≡◌, ℕ, zero, suc, ◌+◌, ◌<◌, max, List, [], ◌∷◌, ◌++◌, length, get_or, take, map, ◌≤◌, sym, subst, ap, ap₂, ◌∙◌, arith}
use Rattle.std.proofs.lemmas.List.{take_more, map-append}
use Rattle.ua_variant.specs.Data.{ScalarData}
use Rattle.ua_variant.specs.Measure.{scalar_depth, scalars_depth, scalar_count, scalars_count}
use Rattle.ua_variant.specs.View.{scalar_of, row}
use Rattle.ua_variant.specs.declared.values.Scalar.{Scalar}

-- the data of these elements
abbrev pub seen : List Scalar → List ScalarData
seen ss = map scalar_of ss

depth_push : (ss : List ScalarData) (s : ScalarData) → scalars_depth (row (ss ++ s ∷ [])) ≡ max (scalars_depth (row ss)) (scalar_depth s)
depth_push [] s = omega arith
depth_push (x ∷ ss) s = omega (arith, depth_push ss s)

count_push : (ss : List ScalarData) (s : ScalarData) → scalars_count (row (ss ++ s ∷ [])) ≡ scalars_count (row ss) + scalar_count s
count_push [] s = omega arith
count_push (x ∷ ss) s = omega (arith, count_push ss s)

pub seen_next : (ss : List Scalar) (i : ℕ) (d : Scalar) → i < length ss → seen (take (i + 1) ss) ≡ seen (take i ss) ++ scalar_of (get_or ss i d) ∷ []
seen_next ss i d h = ap seen (take_more ss i d h) ∙ map-append scalar_of (take i ss) (get_or ss i d ∷ [])

depth_next : (ss : List Scalar) (i : ℕ) (d : Scalar) → i < length ss
    → scalars_depth (row (seen (take (i + 1) ss))) ≡ max (scalars_depth (row (seen (take i ss)))) (scalar_depth (scalar_of (get_or ss i d)))
depth_next ss i d h = ap (λ xs. scalars_depth (row xs)) (seen_next ss i d h) ∙ depth_push (seen (take i ss)) (scalar_of (get_or ss i d))

count_next : (ss : List Scalar) (i : ℕ) (d : Scalar) → i < length ss → scalars_count (row (seen (take (i + 1) ss))) ≡ scalars_count (row (seen (take i ss)))
    + scalar_count (scalar_of (get_or ss i d))
count_next ss i d h = ap (λ xs. scalars_count (row xs)) (seen_next ss i d h) ∙ count_push (seen (take i ss)) (scalar_of (get_or ss i d))

-- an element counts no more than the row
count_within : (ss : List Scalar) (i : ℕ) (d : Scalar) → i < length ss → scalar_count (scalar_of (get_or ss i d)) < scalars_count (row (seen ss)) + 1
count_within [] i d h = absurd (omega arith)
count_within (s ∷ ss) zero d h = omega arith
count_within (s ∷ ss) (suc i) d h = omega (arith, count_within ss i d (omega arith))

-- the same, as a loop over the row meets it
pub count_below : (ss : List Scalar) (i : ℕ) (s : Scalar) (all : List ScalarData) → map scalar_of ss ≡ all → i < length ss → s ≡ get_or ss i s
    → scalar_count (scalar_of s) ≤ scalars_count (row all)
count_below ss i s all e h is = subst (λ xs. scalar_count (scalar_of s) ≤ scalars_count (row xs)) e
    (subst (λ x. scalar_count (scalar_of x) ≤ scalars_count (row (map scalar_of ss))) (sym is) (omega (arith, count_within ss i s h)))

pub depth_after : (ss : List Scalar) (i : ℕ) (s : Scalar) → i < length ss → s ≡ get_or ss i s
    → scalars_depth (row (seen (take (i + 1) ss))) ≡ max (scalars_depth (row (seen (take i ss)))) (scalar_depth (scalar_of s))
depth_after ss i s h is = depth_next ss i s h ∙ ap (λ x. max (scalars_depth (row (seen (take i ss)))) (scalar_depth (scalar_of x))) (sym is)

pub count_after : (ss : List Scalar) (i : ℕ) (s : Scalar) → i < length ss → s ≡ get_or ss i s
    → scalars_count (row (seen (take (i + 1) ss))) ≡ scalars_count (row (seen (take i ss))) + scalar_count (scalar_of s)
count_after ss i s h is = count_next ss i s h ∙ ap (λ x. scalars_count (row (seen (take i ss))) + scalar_count (scalar_of x)) (sym is)

-- one more copy
pub seen_more : (copies ss : List Scalar) (i : ℕ) (s : Scalar) → map scalar_of copies ≡ seen (take i ss) → i < length ss → s ≡ get_or ss i s
    → map scalar_of copies ++ scalar_of s ∷ [] ≡ seen (take (i + 1) ss)
seen_more copies ss i s before h is =
    ap₂ (λ (xs : List ScalarData) (x : Scalar). xs ++ scalar_of x ∷ []) before is ∙ sym (seen_next ss i s h)

-- one more element
pub pushed : (xs : List Scalar) (x : Scalar) → map scalar_of (xs ++ x ∷ []) ≡ map scalar_of xs ++ scalar_of x ∷ []
pushed xs x = map-append scalar_of xs (x ∷ [])
