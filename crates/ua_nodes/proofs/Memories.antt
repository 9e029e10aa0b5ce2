-- The memory of the elements of an array, one at a time.
use Rattle.std.proofs.Common.{◌≡◌, ℕ, zero, suc, ◌+◌, ◌*◌, ◌<◌, ◌≤◌, min, List, [], ◌∷◌, ◌++◌, length, get_or, take, map, refl, sym, subst, ap, ◌∙◌, arith}
use Rattle.std.proofs.lemmas.List.{take_more, map-append}
use Rattle.ua_variant.specs.Data.{LeafData, boolean, sbyte, byte, int16, uint16, int32, uint32, int64}
use Rattle.ua_variant.specs.Data.{uint64, float, double, date_time, guid, status_code, ScalarData, leaf}
use Rattle.ua_variant.specs.Encodable.{row_length}
use Rattle.ua_variant.specs.Measure.{scalar_count, scalars_count}
use Rattle.ua_variant.specs.Packed.{packed_leaves}
use Rattle.ua_variant.specs.View.{scalar_of, row}
use Rattle.ua_variant.specs.declared.packed.Packed.{Packed}
use Rattle.ua_variant.specs.declared.values.Scalar.{Scalar}
use Rattle.ua_nodes.specs.Memory.{leaf_memory, scalar_memory, scalars_memory}

-- ---- elements in a vector of their own type

none_beside : {X : Type 0} (f : X → LeafData) (xs : List X) → ((x : X) → leaf_memory (f x) ≡ 0) → scalars_memory (row (map leaf (map f xs))) ≡ 0
none_beside f [] none = refl
none_beside f (x ∷ xs) none = omega (arith, none x, none_beside f xs none)

packed_none : (p : Packed) → scalars_memory (row (map leaf (packed_leaves p))) ≡ 0
packed_none (Packed.Booleans v) = none_beside boolean v.items (λ x. refl)
packed_none (Packed.SBytes v) = none_beside sbyte v.items (λ x. refl)
packed_none (Packed.Bytes v) = none_beside byte v.items (λ x. refl)
packed_none (Packed.Int16s v) = none_beside int16 v.items (λ x. refl)
packed_none (Packed.UInt16s v) = none_beside uint16 v.items (λ x. refl)
packed_none (Packed.Int32s v) = none_beside int32 v.items (λ x. refl)
packed_none (Packed.UInt32s v) = none_beside uint32 v.items (λ x. refl)
packed_none (Packed.Int64s v) = none_beside int64 v.items (λ x. refl)
packed_none (Packed.UInt64s v) = none_beside uint64 v.items (λ x. refl)
packed_none (Packed.Floats v) = none_beside float v.items (λ x. refl)
packed_none (Packed.Doubles v) = none_beside double v.items (λ x. refl)
packed_none (Packed.DateTimes v) = none_beside date_time v.items (λ x. refl)
packed_none (Packed.Guids v) = none_beside guid v.items (λ x. refl)
packed_none (Packed.StatusCodes v) = none_beside status_code v.items (λ x. refl)

pub packed_memory : (p : Packed) (all : List ScalarData) → map leaf (packed_leaves p) ≡ all → scalars_memory (row all) ≡ 0
packed_memory p all e = sym (ap (λ xs. scalars_memory (row xs)) e) ∙ packed_none p

-- ---- one element more

seen_next : (ss : List Scalar) (i : ℕ) (d : Scalar) → i < length ss → map scalar_of (take (i + 1) ss) ≡ map scalar_of (take i ss) ++ scalar_of (get_or ss i d)
    ∷ []
seen_next ss i d h = ap (map scalar_of) (take_more ss i d h) ∙ map-append scalar_of (take i ss) (get_or ss i d ∷ [])

memory_push : (ss : List ScalarData) (s : ScalarData) → scalars_memory (row (ss ++ s ∷ [])) ≡ scalars_memory (row ss) + scalar_memory s
memory_push [] s = omega arith
memory_push (x ∷ ss) s = omega (arith, memory_push ss s)

memory_next : (ss : List Scalar) (i : ℕ) (d : Scalar) → i < length ss
    → scalars_memory (row (map scalar_of (take (i + 1) ss))) ≡ scalars_memory (row (map scalar_of (take i ss))) + scalar_memory (scalar_of (get_or ss i d))
memory_next ss i d h = ap (λ xs. scalars_memory (row xs)) (seen_next ss i d h) ∙ memory_push (map scalar_of (take i ss)) (scalar_of (get_or ss i d))

pub memory_after : (ss : List Scalar) (i : ℕ) (s : Scalar) → i < length ss → s ≡ get_or ss i s
    → scalars_memory (row (map scalar_of (take (i + 1) ss))) ≡ scalars_memory (row (map scalar_of (take i ss))) + scalar_memory (scalar_of s)
memory_after ss i s h is = memory_next ss i s h ∙ ap (λ x. scalars_memory (row (map scalar_of (take i ss))) + scalar_memory (scalar_of x)) (sym is)

-- ---- an element counts no more than its array

count_within : (ss : List Scalar) (i : ℕ) (d : Scalar) → i < length ss → scalar_count (scalar_of (get_or ss i d)) < scalars_count (row (map scalar_of ss)) + 1
count_within [] i d h = absurd (omega arith)
count_within (s ∷ ss) zero d h = omega arith
count_within (s ∷ ss) (suc i) d h = omega (arith, count_within ss i d (omega arith))

pub count_below : (ss : List Scalar) (i : ℕ) (s : Scalar) (all : List ScalarData) → map scalar_of ss ≡ all → i < length ss → s ≡ get_or ss i s
    → scalar_count (scalar_of s) ≤ scalars_count (row all)
count_below ss i s all e h is = subst (λ xs. scalar_count (scalar_of s) ≤ scalars_count (row xs)) e
    (subst (λ x. scalar_count (scalar_of x) ≤ scalars_count (row (map scalar_of ss))) (sym is) (omega (arith, count_within ss i s h)))

-- ---- how many elements there are

pub length_row : (all : List ScalarData) → length all ≡ row_length (row all)
length_row [] = refl
length_row (s ∷ all) = omega (arith, length_row all)
