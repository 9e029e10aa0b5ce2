-- The readers of arrays are exact, where that of their elements is.
use Rattle.std.specs.Prelude.{◌≡◌, ℕ, zero, suc, ◌+◌, ◌<◌, ◌≤◌, ◌⊎◌, max, Bool, true, false, cond, List, ◌++◌, Some}
use lib.IntN.{ℤ}
use Rattle.std.proofs.Common.{inl, inr, refl, sym, subst, arith}
use Rattle.ua_wire.specs.Exact.{Exact, ◌>>=◌}
use Rattle.ua_wire.proofs.Readers.{exact_only}
use Rattle.ua_wire.specs.Number.{IsNumber}
use Rattle.ua_wire.proofs.NumbersRead.{exact_number}
use Rattle.ua_variant.specs.Data.{VariantData, absent, many, ScalarData, ScalarsData, no_scalars, scalar}
use Rattle.ua_variant.specs.Measure.{scalar_depth, scalars_depth}
use Rattle.ua_diagnostic.specs.Parts.{Decoder, Joins, Nothing, IsCount, IsNegative}
use Rattle.ua_diagnostic.proofs.PartsRead.{exact_then, exact_map, exact_as, exact_if}
use Rattle.ua_variant.specs.Encodable.{row_length}
use Rattle.ua_diagnostic.specs.Dimensions.{EncodesDims, is_negative, dims_at, no_dims_at}
use Rattle.ua_variant.specs.Encoding.{EncodesRow}
use Rattle.ua_variant.specs.Decoding.{row_at, variant_array_at}
use Rattle.ua_variant.proofs.ScalarsRead.{ShallowS}
use Rattle.ua_diagnostic.proofs.DimensionsRead.{NoDims, exact_no_dims, exact_dims, negative_is, is_negative_at, not_negative, not_negative_at}

-- ---- elements

-- m values of the type id k, of the depth n at most
abbrev pub RowOf : ℕ → ℕ → ℕ → ScalarsData → List ℕ → Type 0
RowOf n k m ss b = (row_length ss ≡ m) × EncodesRow k ss b × (scalars_depth ss ≤ n)

-- a value of the type id k and m values behind it, each of the depth n at most
abbrev RowParts : ℕ → ℕ → ℕ → ScalarsData → List ℕ → Type 0
RowParts n k m y b = (s : ScalarData) × Joins (ShallowS n k s) (λ c. (ss : ScalarsData) × (y ≡ scalar s ss) × RowOf n k m ss c) b

row_to : (n k m : ℕ) (y : ScalarsData) (b : List ℕ) → RowParts n k m y b → RowOf n k (suc m) y b
row_to n k m y b r =
    let s = r.0 in
    let j = r.1 in
    let t = j.4 in
    let ss = t.0 in
    let d : scalar_depth s ≤ n = j.3.2 in
    let e : scalars_depth ss ≤ n = t.2.2 in
    let l : row_length ss ≡ m = t.2.0 in
    subst (λ x. RowOf n k (suc m) x b) (sym t.1) (omega arith, (j.3.0, (j.0, j.1, j.2, j.3.1, t.2.1)), omega arith)

row_from : (n k m : ℕ) (y : ScalarsData) (b : List ℕ) → RowOf n k (suc m) y b → RowParts n k m y b
row_from n k m no_scalars b r = absurd (let h : 0 ≡ suc m = r.0 in omega arith)
row_from n k m (scalar s ss) b r =
    let j = r.1.1 in
    let h : max (scalar_depth s) (scalars_depth ss) ≤ n = r.2 in
    let l : 1 + row_length ss ≡ suc m = r.0 in
    (s, (j.0, j.1, j.2, (r.1.0, j.3, omega arith), (ss, refl, (omega arith, j.4, omega arith))))

none_from : (n k : ℕ) (y : ScalarsData) (b : List ℕ) → RowOf n k 0 y b → (y ≡ no_scalars) × Nothing b
none_from n k no_scalars b r = (refl, r.1)
none_from n k (scalar s ss) b r = absurd (let l : 1 + row_length ss ≡ 0 = r.0 in omega arith)

none_to : (n k : ℕ) (y : ScalarsData) (b : List ℕ) → (y ≡ no_scalars) × Nothing b → RowOf n k 0 y b
none_to n k y b r = subst (λ x. RowOf n k 0 x b) (sym r.0) (refl, r.1, omega arith)

pub exact_row : (n k m : ℕ) (p : Decoder ScalarData) → Exact (ShallowS n k) p → Exact (RowOf n k m) (row_at m p)
exact_row n k zero p e = exact_as (RowOf n k 0) (exact_only no_scalars) (none_to n k) (none_from n k)
exact_row n k (suc m) p e = exact_as (RowOf n k (suc m)) (exact_then e (λ s. exact_map (λ ss. scalar s ss) (exact_row n k m p e))) (row_to n k m)
    (row_from n k m)

-- ---- arrays

-- a null array of the type id k: a negative count, and dimensions that are none
abbrev NullArray : ℕ → Bool → VariantData → List ℕ → Type 0
NullArray k f y b = (ds : List ℤ) × (y ≡ absent k ds) × Joins IsNegative (NoDims f ds) b

-- an array of the type id k: the count of its elements, the elements, of the depth n at most, and its dimensions
abbrev WholeArray : ℕ → ℕ → Bool → VariantData → List ℕ → Type 0
WholeArray n k f y b = (ss : ScalarsData) × (ds : List ℤ) × (y ≡ many k ss ds) × (scalars_depth ss ≤ n)
    × Joins (IsCount (row_length ss)) (Joins (EncodesRow k ss) (EncodesDims f (row_length ss) ds)) b

-- what stands behind the first octet of an array of the type id k, of the depth n at most within
abbrev pub ArrayOf : ℕ → ℕ → Bool → VariantData → List ℕ → Type 0
ArrayOf n k f y b = NullArray k f y b ⊎ WholeArray n k f y b

-- what stands behind a negative count: the dimensions of a null array
abbrev NullBody : ℕ → Bool → VariantData → List ℕ → Type 0
NullBody k f y c = (ds : List ℤ) × (y ≡ absent k ds) × NoDims f ds c

-- what stands behind the count m: m elements of the type id k, of the depth n at most, and their dimensions
abbrev WholeBody : ℕ → ℕ → Bool → ℕ → VariantData → List ℕ → Type 0
WholeBody n k f m y c = (ss : ScalarsData) × Joins (RowOf n k m ss) (λ e. (ds : List ℤ) × (y ≡ many k ss ds) × EncodesDims f m ds e) c

-- behind the count m
abbrev ArrayBody : ℕ → ℕ → Bool → ℕ → VariantData → List ℕ → Type 0
ArrayBody n k f m y c = ((is_negative m ≡ true) × NullBody k f y c) ⊎ ((is_negative m ≡ false) × WholeBody n k f m y c)

null_body_from : (n k : ℕ) (f : Bool) (m : ℕ) → is_negative m ≡ true → (y : VariantData) (c : List ℕ) → ArrayBody n k f m y c → NullBody k f y c
null_body_from n k f m h y c (inl r) = r.1
null_body_from n k f m h y c (inr r) = let e : is_negative m ≡ false = r.0 in absurd cc

whole_body_from : (n k : ℕ) (f : Bool) (m : ℕ) → is_negative m ≡ false → (y : VariantData) (c : List ℕ) → ArrayBody n k f m y c → WholeBody n k f m y c
whole_body_from n k f m h y c (inl r) = let e : is_negative m ≡ true = r.0 in absurd cc
whole_body_from n k f m h y c (inr r) = r.1

array_body : (n k : ℕ) (f : Bool) (p : Decoder ScalarData) → Exact (ShallowS n k) p → (m : ℕ)
    → Exact (ArrayBody n k f m) (λ octets. cond (is_negative m) (no_dims_at f octets >>= λ ds. Some (absent k ds.0, ds.1))
    (row_at m p octets >>= λ ss. dims_at f m ss.1 >>= λ ds. Some (many k ss.0 ds.0, ds.1)))
array_body n k f p e m =
    exact_if (is_negative m) (λ h. exact_as (ArrayBody n k f m) (exact_map (λ ds. absent k ds) (exact_no_dims f)) (λ y c r. inl (h, r))
    (null_body_from n k f m h))
    (λ h. exact_as (ArrayBody n k f m) (exact_then (exact_row n k m p e) (λ ss. exact_map (λ ds. many k ss ds) (exact_dims f m))) (λ y c r. inr (h, r))
    (whole_body_from n k f m h))

array_to_at : (n k : ℕ) (f : Bool) (m : ℕ) (y : VariantData) (b a c : List ℕ) → b ≡ a ++ c → IsNumber 4 m a → ArrayBody n k f m y c → ArrayOf n k f y b
array_to_at n k f m y b a c e w (inl r) = inl (r.1.0, r.1.1, (a, c, e, (m, w, negative_is m r.0), r.1.2))
array_to_at n k f m y b a c e w (inr r) =
    let j = r.1.1 in
    let l : row_length r.1.0 ≡ m = j.3.0 in
    inr (
      r.1.0,
      j.4.0,
      j.4.1,
      j.3.2,
      (
        a,
        c,
        e,
        (subst (λ i. IsNumber 4 i a) (sym l) w, subst (λ i. i < 2147483648) (sym l) (not_negative m r.0)),
        (j.0, j.1, j.2, j.3.1, subst (λ i. EncodesDims f i j.4.0 j.1) (sym l) j.4.2),
      ),
    )

array_to : (n k : ℕ) (f : Bool) (y : VariantData) (b : List ℕ) → (m : ℕ) × Joins (IsNumber 4 m) (ArrayBody n k f m y) b → ArrayOf n k f y b
array_to n k f y b r = array_to_at n k f r.0 y b r.1.0 r.1.1 r.1.2 r.1.3 r.1.4

array_from : (n k : ℕ) (f : Bool) (y : VariantData) (b : List ℕ) → ArrayOf n k f y b → (m : ℕ) × Joins (IsNumber 4 m) (ArrayBody n k f m y) b
array_from n k f y b (inl r) =
    let j = r.2 in
    (j.3.0, (j.0, j.1, j.2, j.3.1, inl (is_negative_at j.3.0 j.3.2, (r.0, r.1, j.4))))
array_from n k f y b (inr r) =
    let j = r.4 in
    let g = j.4 in
    (row_length r.0, (j.0, j.1, j.2, j.3.0, inr (not_negative_at (row_length r.0) j.3.1, (r.0, (g.0, g.1, g.2, (refl, g.3, r.3), (r.1, r.2, g.4))))))

pub exact_array : (n k : ℕ) (f : Bool) (p : ℕ → Decoder ScalarData) → Exact (ShallowS n k) (p k) → Exact (ArrayOf n k f) (variant_array_at p k f)
unfolding variant_array_at
exact_array n k f p e = exact_as (ArrayOf n k f) (exact_then (exact_number 4) (λ m. array_body n k f (p k) e m)) (array_to n k f) (array_from n k f)
