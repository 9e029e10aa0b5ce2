-- The readers of dimensions are exact, and what is written encodes.
use Rattle.std.specs.Prelude.{◌≡◌, ℕ, zero, suc, ◌<◌, ◌≤◌, ◌⊎◌, Bool, true, false, cond, ◌&&◌, IsTrue, eqb, List, [], ◌∷◌, ◌++◌, length, Some}
use lib.IntN.{ℤ, pos, negsuc}
use Rattle.std.proofs.Common.{inl, inr, refl, sym, subst, append-nil, arith}
use Rattle.std.proofs.lemmas.Grind.{common_steps}
use Rattle.ua_wire.specs.Exact.{Exact, ◌>>=◌}
use Rattle.ua_wire.specs.Number.{IsNumber, number_octets}
use Rattle.ua_wire.proofs.Readers.{exact_only, both_true, not_false}
use Rattle.ua_wire.proofs.NumbersRead.{exact_number}
use Rattle.ua_diagnostic.specs.Parts.{when, Joins, Nothing, IsCount, IsNegative}
use Rattle.ua_diagnostic.proofs.PartsRead.{exact_then, exact_map, exact_as, exact_if, exact_when, nil_behind}
use Rattle.ua_diagnostic.specs.Dimensions.{product, IsSize, EncodesSizes, EncodesDims, is_count, are_sizes, dims_encodable, null_count_octets, sizes_canonical}
use Rattle.ua_diagnostic.specs.Dimensions.{has_dims, dims_canonical, is_negative, size_at, sizes_at, is_none_count, dims_at, no_dims_at}

pub count_is : (n : ℕ) → is_count n ≡ true → n < 2147483648
count_is n h = Prim.grind (arith, common_steps)

pub is_count_at : (n : ℕ) → n < 2147483648 → is_count n ≡ true
is_count_at n h = Prim.grind (arith, common_steps)

pub negative_is : (n : ℕ) → is_negative n ≡ true → 2147483648 ≤ n
negative_is n h = Prim.grind (arith, common_steps)

pub is_negative_at : (n : ℕ) → 2147483648 ≤ n → is_negative n ≡ true
is_negative_at n h = Prim.grind (arith, common_steps)

pub not_negative : (n : ℕ) → is_negative n ≡ false → n < 2147483648
not_negative n h = Prim.grind (arith, common_steps)

pub not_negative_at : (n : ℕ) → n < 2147483648 → is_negative n ≡ false
not_negative_at n h = Prim.grind (arith, common_steps)

-- a dimension, as a number that is not negative and nothing behind it
abbrev SizeParts : ℤ → List ℕ → Type 0
SizeParts y b = (n : ℕ) × Joins (IsNumber 4 n) (λ c. IsTrue (is_count n) × ((y ≡ pos n) × Nothing c)) b

size_to : (y : ℤ) (b : List ℕ) → SizeParts y b → IsSize y b
size_to y b r =
    let j = r.1 in
    subst (λ x. IsSize x b) (sym j.4.1.0) (subst (IsNumber 4 r.0) (sym (nil_behind b j.0 j.1 j.2 j.4.1.1)) j.3, count_is r.0 j.4.0)

size_from : (y : ℤ) (b : List ℕ) → IsSize y b → SizeParts y b
size_from (pos n) b r = (n, (b, [], sym (append-nil b), r.0, (is_count_at n r.1, (refl, refl))))
size_from (negsuc n) b r = absurd r

pub exact_size : Exact IsSize size_at
unfolding size_at
exact_size = exact_as IsSize (exact_then (exact_number 4) (λ n. exact_when (is_count n) (exact_only (pos n)))) size_to size_from

-- m dimensions, one behind the other
abbrev SizesOf : ℕ → List ℤ → List ℕ → Type 0
SizesOf m ds b = (length ds ≡ m) × EncodesSizes ds b

-- a dimension, and m dimensions behind it
abbrev SizesParts : ℕ → List ℤ → List ℕ → Type 0
SizesParts m y b = (d : ℤ) × Joins (IsSize d) (λ c. (ds : List ℤ) × (y ≡ d ∷ ds) × SizesOf m ds c) b

sizes_to : (m : ℕ) (y : List ℤ) (b : List ℕ) → SizesParts m y b → SizesOf (suc m) y b
sizes_to m y b r =
    let j = r.1 in
    let l : length j.4.0 ≡ m = j.4.2.0 in
    subst (λ x. SizesOf (suc m) x b) (sym j.4.1) (omega arith, (j.0, j.1, j.2, j.3, j.4.2.1))

sizes_from : (m : ℕ) (y : List ℤ) (b : List ℕ) → SizesOf (suc m) y b → SizesParts m y b
sizes_from m [] b r = absurd (let h : 0 ≡ suc m = r.0 in omega arith)
sizes_from m (d ∷ ds) b r =
    let j = r.1 in
    let l : length (d ∷ ds) ≡ suc m = r.0 in
    (d, (j.0, j.1, j.2, j.3, (ds, refl, (omega arith, j.4))))

no_sizes_to : (y : List ℤ) (b : List ℕ) → (y ≡ []) × Nothing b → SizesOf 0 y b
no_sizes_to y b r = subst (λ x. SizesOf 0 x b) (sym r.0) (refl, r.1)

no_sizes_from : (y : List ℤ) (b : List ℕ) → SizesOf 0 y b → (y ≡ []) × Nothing b
no_sizes_from [] b r = (refl, r.1)
no_sizes_from (d ∷ ds) b r = absurd (let h : length (d ∷ ds) ≡ 0 = r.0 in omega arith)

pub exact_sizes : (m : ℕ) → Exact (SizesOf m) (sizes_at m)
exact_sizes zero = exact_as (SizesOf 0) (exact_only []) no_sizes_to no_sizes_from
exact_sizes (suc m) = exact_as (SizesOf (suc m)) (exact_then exact_size (λ d. exact_map (λ ds. d ∷ ds) (exact_sizes m))) (sizes_to m) (sizes_from m)

-- behind the count m of dimensions
abbrev DimsBody : ℕ → ℕ → List ℤ → List ℕ → Type 0
DimsBody n m y c = ((is_none_count m ≡ true) × ((y ≡ []) × Nothing c)) ⊎ ((is_none_count m ≡ false) × (IsTrue (eqb (product y) n) × SizesOf m y c))

none_count_from : (n m : ℕ) → is_none_count m ≡ true → (y : List ℤ) (c : List ℕ) → DimsBody n m y c → (y ≡ []) × Nothing c
none_count_from n m h y c (inl r) = r.1
none_count_from n m h y c (inr r) = let e : is_none_count m ≡ false = r.0 in absurd cc

-- the sizes that pass the test
abbrev Passed : ℕ → ℕ → List ℤ → List ℕ → Type 0
Passed n m y c = IsTrue (eqb (product y) n) × SizesOf m y c

sizes_passed : (n m : ℕ) → Exact (Passed n m) (λ octets. sizes_at m octets >>= λ ds. when (eqb (product ds.0) n) (Some ds))
sizes_passed n m =
    exact_as (Passed n m) (exact_then (exact_sizes m) (λ (ds : List ℤ). exact_when (eqb (product ds) n) (exact_only ds)))
    (λ y c r. subst (λ x. Passed n m x c) (sym r.1.4.1.0) (r.1.4.0, subst (SizesOf m r.0) (sym (nil_behind c r.1.0 r.1.1 r.1.2 r.1.4.1.1)) r.1.3))
    (λ y c r. (y, (c, [], sym (append-nil c), r.1, (r.0, (refl, refl)))))

some_count_from : (n m : ℕ) → is_none_count m ≡ false → (y : List ℤ) (c : List ℕ) → DimsBody n m y c → Passed n m y c
some_count_from n m h y c (inl r) = let e : is_none_count m ≡ true = r.0 in absurd cc
some_count_from n m h y c (inr r) = r.1

dims_body : (n m : ℕ)
    → Exact (DimsBody n m) (λ octets. cond (is_none_count m) (Some ([], octets)) (sizes_at m octets >>= λ ds. when (eqb (product ds.0) n) (Some ds)))
dims_body n m =
    exact_if (is_none_count m) (λ h. exact_as (DimsBody n m) (exact_only []) (λ y c r. inl (h, r)) (none_count_from n m h))
    (λ h. exact_as (DimsBody n m) (sizes_passed n m) (λ y c r. inr (h, r)) (some_count_from n m h))

-- a count of dimensions, and what stands behind it for an array of n elements
abbrev DimsParts : ℕ → List ℤ → List ℕ → Type 0
DimsParts n y b = (m : ℕ) × Joins (IsNumber 4 m) (DimsBody n m y) b

none_count_is : (m : ℕ) → is_none_count m ≡ true → (2147483648 ≤ m) ⊎ (m ≡ 0)
none_count_is m h = Prim.grind (arith, common_steps)

some_count_is : (m : ℕ) → is_none_count m ≡ false → (0 < m) × (m < 2147483648)
some_count_is m h = (Prim.grind (arith, common_steps), Prim.grind (arith, common_steps))

none_count_at : (m : ℕ) → 2147483648 ≤ m → is_none_count m ≡ true
none_count_at m h = Prim.grind (arith, common_steps)

some_count_at : (m : ℕ) → 0 < m → m < 2147483648 → is_none_count m ≡ false
some_count_at m h k = Prim.grind (arith, common_steps)

none_of : (m : ℕ) (b : List ℕ) → IsNumber 4 m b → (2147483648 ≤ m) ⊎ (m ≡ 0) → IsNegative b ⊎ IsNumber 4 0 b
none_of m b h (inl low) = inl (m, h, low)
none_of m b h (inr zero_is) = inr (subst (λ k. IsNumber 4 k b) zero_is h)

pub eqb_of : (a b : ℕ) → a ≡ b → eqb a b ≡ true
eqb_of a b h = Prim.grind (arith, common_steps)

pub eqb_to : (a b : ℕ) → eqb a b ≡ true → a ≡ b
eqb_to a b h = Prim.grind (arith, common_steps)

dims_to_at : (n m : ℕ) (y : List ℤ) (b a c : List ℕ) → b ≡ a ++ c → IsNumber 4 m a → DimsBody n m y c → EncodesDims true n y b
dims_to_at n m y b a c e w (inl r) =
    subst (λ x. EncodesDims true n x b) (sym r.1.0) (none_of m b (subst (IsNumber 4 m) (sym (nil_behind b a c e r.1.1)) w) (none_count_is m r.0))
dims_to_at n m [] b a c e w (inr r) = let s = some_count_is m r.0 in absurd (let l : 0 ≡ m = r.1.1.0 in omega (arith, s.0))
dims_to_at n m (d ∷ ds) b a c e w (inr r) =
    let s = some_count_is m r.0 in
    let l : length (d ∷ ds) ≡ m = r.1.1.0 in
    (eqb_to (product (d ∷ ds)) n r.1.0, (a, c, e, (subst (λ k. IsNumber 4 k a) (sym l) w, subst (λ k. k < 2147483648) (sym l) s.1), r.1.1.1))

dims_to : (n : ℕ) (y : List ℤ) (b : List ℕ) → DimsParts n y b → EncodesDims true n y b
dims_to n y b r = dims_to_at n r.0 y b r.1.0 r.1.1 r.1.2 r.1.3 r.1.4

dims_from : (n : ℕ) (y : List ℤ) (b : List ℕ) → EncodesDims true n y b → DimsParts n y b
dims_from n [] b (inl r) = (r.0, (b, [], sym (append-nil b), r.1, inl (none_count_at r.0 r.2, (refl, refl))))
dims_from n [] b (inr r) = (0, (b, [], sym (append-nil b), r, inl (refl, (refl, refl))))
dims_from n (d ∷ ds) b r =
    let j = r.1 in
    (length (d ∷ ds), (j.0, j.1, j.2, j.3.0, inr (some_count_at (length (d ∷ ds)) (omega arith) j.3.1, (eqb_of (product (d ∷ ds)) n r.0, (refl, j.4)))))

pub exact_dims : (f : Bool) (n : ℕ) → Exact (EncodesDims f n) (dims_at f n)
unfolding dims_at
exact_dims true n = exact_as (EncodesDims true n) (exact_then (exact_number 4) (λ m. dims_body n m)) (dims_to n) (dims_from n)
exact_dims false n = exact_only []

-- the dimensions of a null array
abbrev pub NoDims : Bool → List ℤ → List ℕ → Type 0
NoDims f y b = (y ≡ []) × EncodesDims f 0 [] b

no_dims_to : (y : List ℤ) (b : List ℕ) → (m : ℕ) × Joins (IsNumber 4 m) (λ c. IsTrue (is_none_count m) × ((y ≡ []) × Nothing c)) b → NoDims true y b
no_dims_to y b r =
    let j = r.1 in
    (j.4.1.0, none_of r.0 b (subst (IsNumber 4 r.0) (sym (nil_behind b j.0 j.1 j.2 j.4.1.1)) j.3) (none_count_is r.0 j.4.0))

no_dims_from : (y : List ℤ) (b : List ℕ) → NoDims true y b → (m : ℕ) × Joins (IsNumber 4 m) (λ c. IsTrue (is_none_count m) × ((y ≡ []) × Nothing c)) b
no_dims_from y b (e, inl r) = (r.0, (b, [], sym (append-nil b), r.1, (none_count_at r.0 r.2, (e, refl))))
no_dims_from y b (e, inr r) = (0, (b, [], sym (append-nil b), r, (refl, (e, refl))))

pub exact_no_dims : (f : Bool) → Exact (NoDims f) (no_dims_at f)
unfolding no_dims_at
exact_no_dims true = exact_as (NoDims true) (exact_then (exact_number 4) (λ m. exact_when (is_none_count m) (exact_only []))) no_dims_to no_dims_from
exact_no_dims false = exact_as (NoDims false) (exact_only []) (λ y b r. (r.0, (refl, r.1))) (λ y b r. (r.0, r.1.1))

-- ---- what is written

pub count_encodes : (n : ℕ) → is_count n ≡ true → IsCount n (number_octets 4 n)
count_encodes n h = let low : n < 2147483648 = count_is n h in ((omega arith, refl), low)

pub null_encodes : IsNegative null_count_octets
null_encodes = (4294967295, (omega arith, refl), omega arith)

sizes_encode : (ds : List ℤ) → are_sizes ds ≡ true → EncodesSizes ds (sizes_canonical ds)
sizes_encode [] h = refl
sizes_encode (pos n ∷ ds) h =
    let w = both_true (is_count n) (are_sizes ds) h in
    (number_octets 4 n, sizes_canonical ds, refl, count_encodes n w.0, sizes_encode ds w.1)
sizes_encode (negsuc n ∷ ds) h = not_false h

pub dims_encode : (ds : List ℤ) (n : ℕ) → dims_encodable ds n ≡ true → EncodesDims (has_dims ds) n ds (dims_canonical ds)
dims_encode [] n h = (refl, refl)
dims_encode (d ∷ ds) n h =
    let u = both_true (is_count (length (d ∷ ds)) && are_sizes (d ∷ ds)) (eqb (product (d ∷ ds)) n) h in
    let w = both_true (is_count (length (d ∷ ds))) (are_sizes (d ∷ ds)) u.0 in (
      eqb_to (product (d ∷ ds)) n u.1,
      (
        number_octets 4 (length (d ∷ ds)),
        sizes_canonical (d ∷ ds),
        refl,
        count_encodes (length (d ∷ ds)) w.0,
        sizes_encode (d ∷ ds) w.1,
      ),
    )
