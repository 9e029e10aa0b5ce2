-- The readers of DataValues and scalars are exact, where those of what they hold are.
use Rattle.std.specs.Prelude.{◌≡◌, ℕ, suc, ◌+◌, ◌≤◌, Bool, true, false, cond, IsTrue, leb, eqb, List, [], ◌++◌, Option, Some, None}
use Rattle.std.proofs.Common.{refl, sym, subst, ap, ◌∙◌, arith}
use Rattle.std.proofs.lemmas.Grind.{common_steps}
use Rattle.ua_wire.specs.Exact.{Exact, ◌>>=◌}
use Rattle.ua_wire.specs.Format.{IsSound, Within}
use Rattle.ua_wire.proofs.Lawfulness.{sound_made, sound_both, sound_number}
use Rattle.ua_builtin.proofs.PlainLawful.{sound_date_time, sound_status_code}
use Rattle.ua_diagnostic.proofs.PartsLawful.{sound_optional}
use Rattle.ua_variant.specs.Data.{DataFields, VariantData, ScalarData, leaf, data_value, variant, diagnostic, DataValueData, bare, valued}
use Rattle.ua_diagnostic.specs.Diagnostic.{DiagnosticData}
use Rattle.ua_variant.specs.Measure.{variant_depth, scalar_depth, data_value_depth}
use Rattle.ua_variant.specs.View.{value_within}
use Rattle.ua_builtin.specs.Flags.{has}
use Rattle.ua_diagnostic.specs.Parts.{Decoder, when, Joins, Nothing, IsOctet, Optional, optional_read}
use Rattle.ua_diagnostic.proofs.PartsRead.{exact_octet, exact_then, exact_map, exact_as, exact_when, exact_optional}
use Rattle.ua_variant.specs.Leaf.{leaf_kind, leaf_at, holds_values}
use Rattle.ua_variant.proofs.LeavesRead.{exact_leaf, leaf_apart, Sound, sound_if, eqb_is}
use Rattle.ua_variant.specs.Fields.{data_fields}
use Rattle.ua_variant.specs.Encodable.{kind_of_scalar}
use Rattle.ua_variant.specs.Encoding.{EncodesVariant, EncodesScalar, EncodesDataValue}
use Rattle.ua_variant.specs.Decoding.{data_value_step, scalar_at}
use Rattle.ua_diagnostic.proofs.DiagnosticsRead.{Shallow}

pub sound_data_fields : (m : ℕ) → IsSound (data_fields m)
unfolding data_fields
sound_data_fields m =
    sound_made _ _ (λ f. refl)
    (sound_both (sound_optional (has m 2) sound_status_code)
    (sound_both (sound_optional (has m 4) sound_date_time)
    (sound_both (sound_optional (has m 16) (sound_number 2))
    (sound_both (sound_optional (has m 8) sound_date_time)
    (sound_optional (has m 32) (sound_number 2))))))

-- of the depth n at most
abbrev pub ShallowV : ℕ → VariantData → List ℕ → Type 0
ShallowV n = Within EncodesVariant variant_depth n

-- a DataValue, of the depth n at most
abbrev pub ShallowD : ℕ → DataValueData → List ℕ → Type 0
ShallowD n = Within EncodesDataValue data_value_depth n

-- a scalar of the type id k, of the depth n at most
abbrev pub ShallowS : ℕ → ℕ → ScalarData → List ℕ → Type 0
ShallowS n k s b = (kind_of_scalar s ≡ k) × EncodesScalar s b × (scalar_depth s ≤ n)

-- ---- DataValue

-- behind the mask m
abbrev Body : ℕ → ℕ → DataValueData → List ℕ → Type 0
Body n m y b = IsTrue (leb m 63)
    × ((v : Option VariantData) × Joins (Optional (ShallowV n) (has m 1) v) (λ c. (f : DataFields) × (y ≡ value_within v f) × (data_fields m).encodes f c) b)

body : (n m : ℕ) (r : Decoder VariantData) → Exact (ShallowV n) r
    → Exact (Body n m)
    (λ octets. when (leb m 63) (optional_read (has m 1) r octets >>= λ v. (data_fields m).decode v.1 >>= λ f. Some (value_within v.0 f.0, f.1)))
body n m r e =
    exact_when (leb m 63)
    (exact_then (exact_optional (ShallowV n) r (has m 1) e) (λ v. exact_map (λ (f : DataFields). value_within v f) (sound_data_fields m).exact))

nil_before : (b front back : List ℕ) → b ≡ front ++ back → Nothing front → b ≡ back
nil_before b front back e none = e ∙ ap (λ (c : List ℕ). c ++ back) none

to_at : (n m : ℕ) (y : DataValueData) (b a c c1 c2 : List ℕ) (f : DataFields) (v : Option VariantData) (t : Bool)
    → has m 1 ≡ t → IsTrue (leb m 63) → b ≡ a ++ c → IsOctet m a → c ≡ c1 ++ c2 → Optional (ShallowV n) t v c1 → y ≡ value_within v f
    → (data_fields m).encodes f c2 → ShallowD (suc n) y b
to_at n m y b a c c1 c2 f None true is low e o e1 r1 iy r2 = absurd r1
to_at n m y b a c c1 c2 f None false is low e o e1 r1 iy r2 =
    subst (λ x. ShallowD (suc n) x b) (sym iy) (
      (m, (a, c, e, o, (low, (is, subst ((data_fields m).encodes f) (sym (nil_before c c1 c2 e1 r1)) r2)))),
      omega arith,
    )
to_at n m y b a c c1 c2 f (Some v) true is low e o e1 r1 iy r2 =
    let deep : variant_depth v ≤ n = r1.1 in
    subst (λ x. ShallowD (suc n) x b) (sym iy) ((m, (a, c, e, o, (low, (is, (c1, c2, e1, r1.0, r2))))), omega arith)
to_at n m y b a c c1 c2 f (Some v) false is low e o e1 r1 iy r2 = absurd r1

data_value_to : (n : ℕ) (y : DataValueData) (b : List ℕ) → (m : ℕ) × Joins (IsOctet m) (Body n m y) b → ShallowD (suc n) y b
data_value_to n y b r =
    let j = r.1 in
    let w = j.4 in
    let g = w.1.1 in
    to_at n r.0 y b j.0 j.1 g.0 g.1 g.4.0 w.1.0 (has r.0 1) refl w.0 j.2 j.3 g.2 g.3 g.4.1 g.4.2

data_value_back : (n : ℕ) (y : DataValueData) (b : List ℕ) → ShallowD (suc n) y b → (m : ℕ) × Joins (IsOctet m) (Body n m y) b
data_value_back n (bare f) b r =
    let m = r.0.0 in
    let j = r.0.1 in
    let w = j.4 in
    (m, (j.0, j.1, j.2, j.3, (w.0, (None, ([], j.1, refl, subst (λ (t : Bool). Optional (ShallowV n) t None []) (sym w.1.0) refl, (f, refl, w.1.1))))))
data_value_back n (valued v f) b r =
    let m = r.0.0 in
    let j = r.0.1 in
    let w = j.4 in
    let g = w.1.1 in
    let deep : variant_depth v ≤ n = let h : 1 + variant_depth v ≤ suc n = r.1 in omega arith in (
      m,
      (
        j.0,
        j.1,
        j.2,
        j.3,
        (w.0, (Some v, (g.0, g.1, g.2, subst (λ (t : Bool). Optional (ShallowV n) t (Some v) g.0) (sym w.1.0) (g.3, deep), (f, refl, g.4)))),
      ),
    )

pub exact_data_value_step : (n : ℕ) (r : Decoder VariantData) → Exact (ShallowV n) r → Exact (ShallowD (suc n)) (data_value_step r)
unfolding data_value_step
exact_data_value_step n r e = exact_as (ShallowD (suc n)) (exact_then exact_octet (λ m. body n m r e)) (data_value_to n) (data_value_back n)

-- ---- scalars

sound_as : {A B : Type 0} {p : A → List ℕ → Type 0} {r : List ℕ → Option (A × List ℕ)} (q : B → List ℕ → Type 0) (f : A → B) → Exact p r
    → ((x : A) (b : List ℕ) → p x b → q (f x) b) → Sound q (λ octets. r octets >>= λ x. Some (f x.0, x.1))
sound_as {A} {B} {p} {r} q f e to octets v rest h =
    let s = (exact_map f e).sound octets v rest h in
    record { front = s.front; parts = s.parts; encoded = subst (λ y. q y s.front) (sym s.encoded.1) (to s.encoded.0 s.front s.encoded.2) }

last_holder : (k : ℕ) → holds_values k ≡ true → eqb k 23 ≡ false → eqb k 24 ≡ false → k ≡ 25
last_holder k h a b = Prim.grind (arith, common_steps)

if_false : {A : Type 0} (b : Bool) (x y : A) → b ≡ false → cond b x y ≡ y
if_false true x y h = absurd cc
if_false false x y h = refl

module _ (n : ℕ) (dv : Decoder DataValueData) (v : Decoder VariantData) (dg : Decoder DiagnosticData)
    (ed : Exact (ShallowD n) dv) (ev : Exact (ShallowV n) v) (eg : Exact (Shallow n) dg) where
  at_kind : (k j : ℕ) (r : Decoder ScalarData) → k ≡ j → Sound (ShallowS n j) r → Sound (ShallowS n k) r
  at_kind k j r h e = subst (λ i. Sound (ShallowS n i) r) (sym h) e

  scalar_sound : (k : ℕ) → Sound (ShallowS n k) (scalar_at dv v dg k)
  unfolding scalar_at
  scalar_sound k =
      sound_if (holds_values k) (λ h.
      sound_if (eqb k 23) (λ e. at_kind k 23 _ (eqb_is k 23 e) (sound_as (ShallowS n 23) data_value ed (λ x b s. (refl, s.0, s.1)))) (λ no23.
      sound_if (eqb k 24) (λ e. at_kind k 24 _ (eqb_is k 24 e) (sound_as (ShallowS n 24) variant ev (λ x b s. (refl, s.0, s.1)))) (λ no24.
      at_kind k 25 _ (last_holder k h no23 no24) (sound_as (ShallowS n 25) diagnostic eg (λ x b s. (refl, s.0, s.1))))))
      (λ h. sound_as (ShallowS n k) leaf (exact_leaf k) (λ x b s. (s.0, s.1, omega arith)))

  scalar_complete : (s : ScalarData) (front rest : List ℕ) → EncodesScalar s front → scalar_depth s ≤ n
      → scalar_at dv v dg (kind_of_scalar s) (front ++ rest) ≡ Some (s, rest)
  unfolding scalar_at
  scalar_complete (leaf l) front rest r h =
      if_false (holds_values (leaf_kind l)) _ (leaf_at (leaf_kind l) (front ++ rest) >>= λ x. Some (leaf x.0, x.1)) (leaf_apart l front r)
      ∙ (exact_map leaf (exact_leaf (leaf_kind l))).complete (leaf l) front rest (l, refl, (refl, r))
  scalar_complete (data_value x) front rest r h = (exact_map data_value ed).complete (data_value x) front rest (x, refl, (r, h))
  scalar_complete (variant x) front rest r h = (exact_map variant ev).complete (variant x) front rest (x, refl, (r, h))
  scalar_complete (diagnostic x) front rest r h = (exact_map diagnostic eg).complete (diagnostic x) front rest (x, refl, (r, h))

  pub exact_scalar : (k : ℕ) → Exact (ShallowS n k) (scalar_at dv v dg k)
  exact_scalar k = record {
    sound = scalar_sound k;
    complete = λ s front rest r. subst (λ j. scalar_at dv v dg j (front ++ rest) ≡ Some (s, rest)) r.0 (scalar_complete s front rest r.1 r.2);
  }
