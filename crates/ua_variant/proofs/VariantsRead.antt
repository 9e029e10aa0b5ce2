-- The readers of Variant and DataValue are exact, at each depth.
use Rattle.std.specs.Prelude.{◌≡◌, ℕ, zero, suc, ◌+◌, ◌-◌, ◌/◌, ◌%◌, ◌<◌, ◌≤◌, Bool, true, false, ◌&&◌, not, IsTrue, leb, eqb, List, [], ◌∷◌, ◌++◌, None}
use Rattle.std.proofs.Common.{inl, inr, refl, sym, subst, ap, ap₂, ◌∙◌, arith}
use Rattle.std.proofs.lemmas.Grind.{common_steps}
use Rattle.ua_wire.specs.Exact.{Exact}
use Rattle.ua_wire.proofs.Readers.{exact_only}
use Rattle.ua_diagnostic.specs.Diagnostic.{diagnostic_at}
use Rattle.ua_variant.specs.Data.{VariantData, null, one, absent, many, ScalarData, leaf, data_value, variant, diagnostic, DataValueData, bare, valued}
use Rattle.ua_variant.specs.Measure.{variant_depth, scalar_depth, scalars_depth}
use Rattle.ua_builtin.specs.Flags.{has}
use Rattle.ua_builtin.proofs.FlagBits.{has_bit, flag_has}
use Rattle.ua_diagnostic.specs.Parts.{Decoder, Joins, Nothing, IsOctet}
use Rattle.ua_diagnostic.proofs.PartsRead.{exact_octet, exact_then, exact_map, exact_as, exact_if, exact_when, exact_none}
use Rattle.ua_variant.proofs.LeavesRead.{leaf_kind_within, eqb_is}
use Rattle.ua_variant.specs.Encodable.{kind_of_scalar, is_read_kind}
use Rattle.ua_variant.specs.Encoding.{EncodesVariant, EncodesScalar, array_octet}
use Rattle.ua_variant.specs.Decoding.{variant_after, variant_step, variant_at, data_value_at, data_value_step, scalar_at, scalars_at}
use Rattle.ua_diagnostic.proofs.DiagnosticsRead.{exact_diagnostic}
use Rattle.ua_variant.proofs.ScalarsRead.{ShallowV, ShallowD, ShallowS, exact_scalar, exact_data_value_step}
use Rattle.ua_variant.proofs.ArraysRead.{ArrayOf, exact_array}

-- what stands behind the first octet t
abbrev After : ℕ → ℕ → VariantData → List ℕ → Type 0
After n t y b = ShallowV (suc n) y (t ∷ b)

head_of : (t k : ℕ) (b a c : List ℕ) → t ∷ b ≡ a ++ c → IsOctet k a → (t ≡ k) × (b ≡ c)
head_of t k b a c e o = let h : t ∷ b ≡ k ∷ c = e ∙ ap (λ (x : List ℕ). x ++ c) o.1 in (cc, cc)

pub kind_within : (s : ScalarData) (b : List ℕ) → EncodesScalar s b → (0 < kind_of_scalar s) × (kind_of_scalar s < 32)
kind_within (leaf l) b r = leaf_kind_within l b r
kind_within (data_value d) b r = (omega arith, omega arith)
kind_within (variant v) b r = (omega arith, omega arith)
kind_within (diagnostic d) b r = (omega arith, omega arith)

octet_high : (f : Bool) (k : ℕ) → 128 ≤ array_octet f k
octet_high true k = omega arith
octet_high false k = omega arith

null_to : (n t : ℕ) → t ≡ 0 → (y : VariantData) (b : List ℕ) → (y ≡ null) × Nothing b → After n t y b
null_to n t h y b r = subst (λ x. ShallowV (suc n) x (t ∷ b)) (sym r.0) ((omega arith, ap₂ (λ (a : ℕ) (c : List ℕ). a ∷ c) h r.1), omega arith)

null_from : (n t : ℕ) → t ≡ 0 → (y : VariantData) (b : List ℕ) → After n t y b → (y ≡ null) × Nothing b
null_from n t h null b r = let e : t ∷ b ≡ 0 ∷ [] = r.0.1 in (refl, cc)
null_from n t h (one s) b r =
    let j = r.0.1 in let e = head_of t (kind_of_scalar s) b j.0 j.1 j.2 j.3 in let k = kind_within s j.1 j.4 in absurd (omega (arith, e.0, k.0))
null_from n t h (absent k ds) b r = let f = r.0.2 in let j = r.0.3 in let e = head_of t (array_octet f k) b j.0 j.1 j.2 j.3 in absurd
    (omega (arith, e.0, octet_high f k))
null_from n t h (many k ss ds) b r = let f = r.0.1 in let j = r.0.2 in let e = head_of t (array_octet f k) b j.0 j.1 j.2 j.3 in absurd
    (omega (arith, e.0, octet_high f k))

not_24 : (t : ℕ) → not (eqb t 24) ≡ true → t ≡ 24 → ⊥
not_24 t h e = absurd (let x : not (eqb 24 24) ≡ true = subst (λ k. not (eqb k 24) ≡ true) e h in let z : false ≡ true = x in cc)

is_not_24 : (t : ℕ) → (t ≡ 24 → ⊥) → not (eqb t 24) ≡ true
is_not_24 t h = Prim.grind (arith, common_steps)

one_to : (n t : ℕ) → t < 128 → (y : VariantData) (b : List ℕ) → IsTrue (not (eqb t 24)) × ((s : ScalarData) × (y ≡ one s) × ShallowS n t s b) → After n t y b
one_to n t low y b r =
    let s = r.1.0 in
    let w = r.1.2 in
    let d : scalar_depth s ≤ n = w.2 in
    let other : kind_of_scalar s ≡ 24 → ⊥ = λ e. not_24 t r.0 (sym w.0 ∙ e) in
    subst (λ x. ShallowV (suc n) x (t ∷ b)) (sym r.1.1) ((other, (t ∷ [], b, refl, (omega (arith, w.0), ap (λ (x : ℕ). x ∷ []) (sym w.0)), w.1)), omega arith)

one_from : (n t : ℕ) → t < 128 → (t ≡ 0 → ⊥) → (y : VariantData) (b : List ℕ) → After n t y b → IsTrue (not (eqb t 24))
    × ((s : ScalarData) × (y ≡ one s) × ShallowS n t s b)
one_from n t h z null b r = absurd (let e : t ∷ b ≡ 0 ∷ [] = r.0.1 in z cc)
one_from n t h z (one s) b r =
    let j = r.0.1 in
    let e = head_of t (kind_of_scalar s) b j.0 j.1 j.2 j.3 in
    let d : 1 + scalar_depth s ≤ suc n = r.1 in
    (is_not_24 t (λ i. r.0.0 (sym e.0 ∙ i)), (s, refl, (sym e.0, subst (EncodesScalar s) (sym e.1) j.4, omega arith)))
one_from n t h z (absent k ds) b r = let f = r.0.2 in let j = r.0.3 in let e = head_of t (array_octet f k) b j.0 j.1 j.2 j.3 in absurd
    (omega (arith, e.0, octet_high f k))
one_from n t h z (many k ss ds) b r = let f = r.0.1 in let j = r.0.2 in let e = head_of t (array_octet f k) b j.0 j.1 j.2 j.3 in absurd
    (omega (arith, e.0, octet_high f k))

tag_is : (t : ℕ) → 128 ≤ t → t ≤ 255 → t ≡ array_octet (has t 64) (t % 64)
tag_is t h k = omega (arith, flag_has t 6)

pub tag_kind : (f : Bool) (k : ℕ) → k < 32 → array_octet f k % 64 ≡ k
tag_kind true k h = omega arith
tag_kind false k h = omega arith

pub tag_flag : (f : Bool) (k : ℕ) → k < 32 → has (array_octet f k) 64 ≡ f
tag_flag true k h = let e : array_octet true k / 64 % 2 ≡ 1 = omega arith in has_bit (array_octet true k) 6 ∙ ap (λ (r : ℕ). eqb r 1) e
tag_flag false k h = let e : array_octet false k / 64 % 2 ≡ 0 = omega arith in has_bit (array_octet false k) 6 ∙ ap (λ (r : ℕ). eqb r 1) e

pub read_kind_low : (k : ℕ) → IsTrue (is_read_kind k) → k < 32
read_kind_low k h = Prim.grind (arith, common_steps)

test_is : (t : ℕ) → (is_read_kind (t % 64) && leb t 255) ≡ true → (is_read_kind (t % 64) ≡ true) × (t ≤ 255)
test_is t h = (Prim.grind (arith, common_steps), Prim.grind (arith, common_steps))

array_after : (n t : ℕ) (y : VariantData) (b : List ℕ) → IsTrue (is_read_kind (t % 64)) → t ≤ 255 → t ≡ array_octet (has t 64) (t % 64)
    → ArrayOf n (t % 64) (has t 64) y b → After n t y b
array_after n t y b k low e (inl r) =
    let j = r.2 in
    let none = j.4 in
    subst (λ x. ShallowV (suc n) x (t ∷ b)) (sym r.1)
    ((k, none.0, has t 64, (t ∷ [], b, refl, (omega (arith, e), ap (λ (x : ℕ). x ∷ []) e), (j.0, j.1, j.2, j.3, none.1))), omega arith)
array_after n t y b k low e (inr r) =
    let d : scalars_depth r.0 ≤ n = r.3 in
    subst (λ x. ShallowV (suc n) x (t ∷ b)) (sym r.2) ((k, has t 64, (t ∷ [], b, refl, (omega (arith, e), ap (λ (x : ℕ). x ∷ []) e), r.4)), omega arith)

-- what stands behind the first octet t of an array: an array of the type id that t has, which is one that is read
abbrev Wanted : ℕ → ℕ → VariantData → List ℕ → Type 0
Wanted n t y b = IsTrue (is_read_kind (t % 64) && leb t 255) × ArrayOf n (t % 64) (has t 64) y b

octet_low : (f : Bool) (k : ℕ) → k < 32 → leb (array_octet f k) 255 ≡ true
octet_low true k h = Prim.grind (arith, common_steps)
octet_low false k h = Prim.grind (arith, common_steps)

test_at : (f : Bool) (k : ℕ) → IsTrue (is_read_kind k) → (is_read_kind (array_octet f k % 64) && leb (array_octet f k) 255) ≡ true
test_at f k h = ap (λ (i : ℕ). is_read_kind i && leb (array_octet f k) 255) (tag_kind f k (read_kind_low k h))
    ∙ ap (λ (b : Bool). b && leb (array_octet f k) 255) h ∙ octet_low f k (read_kind_low k h)

wanted_at : (n t : ℕ) (f : Bool) (k : ℕ) (y : VariantData) (b : List ℕ) → t ≡ array_octet f k → IsTrue (is_read_kind k) → ArrayOf n k f y b → Wanted n t y b
wanted_at n t f k y b e h r =
    let low = read_kind_low k h in
    subst (λ x. Wanted n x y b) (sym e) (
      test_at f k h,
      subst (λ g. ArrayOf n (array_octet f k % 64) g y b) (sym (tag_flag f k low))
          (subst (λ i. ArrayOf n i f y b) (sym (tag_kind f k low)) r),
    )

array_back : (n t : ℕ) → 128 ≤ t → (y : VariantData) (b : List ℕ) → After n t y b → Wanted n t y b
array_back n t h null b r = absurd (let e : t ∷ b ≡ 0 ∷ [] = r.0.1 in let z : t ≡ 0 = cc in omega arith)
array_back n t h (one s) b r = let j = r.0.1 in let e = head_of t (kind_of_scalar s) b j.0 j.1 j.2 j.3 in let k =
    kind_within s j.1 j.4 in absurd (omega (arith, e.0, k.1))
array_back n t h (absent k ds) b r =
    let f = r.0.2 in
    let j = r.0.3 in
    let e = head_of t (array_octet f k) b j.0 j.1 j.2 j.3 in
    let i = j.4 in
    wanted_at n t f k (absent k ds) b e.0 r.0.0 (inl (ds, refl, (i.0, i.1, e.1 ∙ i.2, i.3, (r.0.1, i.4))))
array_back n t h (many k ss ds) b r =
    let f = r.0.1 in
    let j = r.0.2 in
    let e = head_of t (array_octet f k) b j.0 j.1 j.2 j.3 in
    let i = j.4 in
    let d : 1 + scalars_depth ss ≤ suc n = r.1 in
    wanted_at n t f k (many k ss ds) b e.0 r.0.0 (inr (ss, ds, refl, omega arith, (i.0, i.1, e.1 ∙ i.2, i.3, i.4)))

array_there : (n t : ℕ) → 128 ≤ t → (y : VariantData) (b : List ℕ) → Wanted n t y b → After n t y b
array_there n t h y b r = let w = test_is t r.0 in array_after n t y b w.0 w.1 (tag_is t h w.1) r.1

eqb_no : (a b : ℕ) → eqb a b ≡ false → a ≡ b → ⊥
eqb_no a b h e = absurd (Prim.grind (arith, common_steps))

leb_is : (t : ℕ) → leb 128 t ≡ true → 128 ≤ t
leb_is t h = Prim.grind (arith, common_steps)

leb_no : (t : ℕ) → leb 128 t ≡ false → t < 128
leb_no t h = Prim.grind (arith, common_steps)

exact_after : (n t : ℕ) (p : ℕ → Decoder ScalarData) → ((k : ℕ) → Exact (ShallowS n k) (p k)) → Exact (After n t) (variant_after p t)
unfolding variant_after
exact_after n t p e =
    exact_if (eqb t 0) (λ h. exact_as (After n t) (exact_only null) (null_to n t (eqb_is t 0 h)) (null_from n t (eqb_is t 0 h)))
    (λ z. exact_if (leb 128 t) (λ h. exact_as (After n t) (exact_when (is_read_kind (t % 64) && leb t 255) (exact_array n (t % 64) (has t 64) p (e (t % 64))))
    (array_there n t (leb_is t h)) (array_back n t (leb_is t h)))
    (λ h. exact_as (After n t) (exact_when (not (eqb t 24)) (exact_map one (e t))) (one_to n t (leb_no t h)) (one_from n t (leb_no t h) (eqb_no t 0 z))))

tagged_to : (n : ℕ) (y : VariantData) (b : List ℕ) → (t : ℕ) × Joins (IsOctet t) (After n t y) b → ShallowV (suc n) y b
tagged_to n y b r = let j = r.1 in subst (ShallowV (suc n) y) (sym (j.2 ∙ ap (λ (x : List ℕ). x ++ j.1) j.3.1)) j.4

no_tag : (k : ℕ) (a c : List ℕ) → [] ≡ a ++ c → IsOctet k a → ⊥
no_tag k a c e o = absurd (let h : [] ≡ k ∷ c = e ∙ ap (λ (x : List ℕ). x ++ c) o.1 in cc)

pub no_octets : (y : VariantData) → EncodesVariant y [] → ⊥
no_octets null r = absurd (let e : [] ≡ 0 ∷ [] = r.1 in cc)
no_octets (one s) r = let j = r.1 in no_tag (kind_of_scalar s) j.0 j.1 j.2 j.3
no_octets (absent k ds) r = let j = r.3 in no_tag (array_octet r.2 k) j.0 j.1 j.2 j.3
no_octets (many k ss ds) r = let j = r.2 in no_tag (array_octet r.1 k) j.0 j.1 j.2 j.3

-- the first octet
tag_low : (y : VariantData) (t : ℕ) (b : List ℕ) → EncodesVariant y (t ∷ b) → t < 256
tag_low null t b r = let e : t ∷ b ≡ 0 ∷ [] = r.1 in let z : t ≡ 0 = cc in omega arith
tag_low (one s) t b r = let j = r.1 in let e = head_of t (kind_of_scalar s) b j.0 j.1 j.2 j.3 in omega (arith, e.0, j.3.0)
tag_low (absent k ds) t b r = let f = r.2 in let j = r.3 in let e = head_of t (array_octet f k) b j.0 j.1 j.2 j.3 in omega (arith, e.0, j.3.0)
tag_low (many k ss ds) t b r = let f = r.1 in let j = r.2 in let e = head_of t (array_octet f k) b j.0 j.1 j.2 j.3 in omega (arith, e.0, j.3.0)

tagged_from : (n : ℕ) (y : VariantData) (b : List ℕ) → ShallowV (suc n) y b → (t : ℕ) × Joins (IsOctet t) (After n t y) b
tagged_from n y [] r = absurd (no_octets y r.0)
tagged_from n y (t ∷ b) r = (t, (t ∷ [], b, refl, (tag_low y t b r.0, refl), r))

exact_step : (n : ℕ) (p : ℕ → Decoder ScalarData) → ((k : ℕ) → Exact (ShallowS n k) (p k)) → Exact (ShallowV (suc n)) (variant_step p)
unfolding variant_step
exact_step n p e = exact_as (ShallowV (suc n)) (exact_then exact_octet (λ t. exact_after n t p e)) (tagged_to n) (tagged_from n)

no_level_v : (y : VariantData) (b : List ℕ) → ShallowV 0 y b → ⊥
no_level_v null b r = let h : 1 ≤ 0 = r.1 in absurd (omega arith)
no_level_v (one s) b r = let h : 1 + scalar_depth s ≤ 0 = r.1 in absurd (omega arith)
no_level_v (absent k ds) b r = let h : 1 ≤ 0 = r.1 in absurd (omega arith)
no_level_v (many k ss ds) b r = let h : 1 + scalars_depth ss ≤ 0 = r.1 in absurd (omega arith)

no_level_d : (y : DataValueData) (b : List ℕ) → ShallowD 0 y b → ⊥
no_level_d (bare f) b r = let h : 1 ≤ 0 = r.1 in absurd (omega arith)
no_level_d (valued v f) b r = let h : 1 + variant_depth v ≤ 0 = r.1 in absurd (omega arith)

mutual
  unfolding variant_at data_value_at

  pub exact_variant : (n : ℕ) → Exact (ShallowV n) (variant_at n)
  exact_variant zero = exact_none no_level_v
  exact_variant (suc n) = exact_step n (scalar_at (data_value_at n) (variant_at n) (diagnostic_at n))
      (exact_scalar n (data_value_at n) (variant_at n) (diagnostic_at n) (exact_data_value n) (exact_variant n) (exact_diagnostic n))

  pub exact_data_value : (n : ℕ) → Exact (ShallowD n) (data_value_at n)
  exact_data_value zero = exact_none no_level_d
  exact_data_value (suc n) = exact_data_value_step n (variant_at n) (exact_variant n)

pub exact_scalars : (n k : ℕ) → Exact (ShallowS n k) (scalars_at n k)
exact_scalars n k = exact_scalar n (data_value_at n) (variant_at n) (diagnostic_at n) (exact_data_value n) (exact_variant n) (exact_diagnostic n) k

pub variant_none : (n : ℕ) (octets : List ℕ) → n ≡ 0 → variant_at n octets ≡ None
unfolding variant_at
variant_none n octets e = ap (λ k. variant_at k octets) e

pub variant_level : (n : ℕ) (octets : List ℕ) → 0 < n → variant_at n octets ≡ variant_step (scalars_at (n - 1)) octets
unfolding variant_at
variant_level zero octets h = absurd (omega arith)
variant_level (suc n) octets h = ap (λ k. variant_step (scalars_at k) octets) (omega arith)

pub data_value_none : (n : ℕ) (octets : List ℕ) → n ≡ 0 → data_value_at n octets ≡ None
unfolding data_value_at
data_value_none n octets e = ap (λ k. data_value_at k octets) e

pub data_value_level : (n : ℕ) (octets : List ℕ) → 0 < n → data_value_at n octets ≡ data_value_step (variant_at (n - 1)) octets
unfolding data_value_at
data_value_level zero octets h = absurd (omega arith)
data_value_level (suc n) octets h = ap (λ k. data_value_step (variant_at k) octets) (omega arith)
