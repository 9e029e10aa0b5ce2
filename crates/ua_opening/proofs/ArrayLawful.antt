-- Arrays of values of a lawful format are lawful.
use Rattle.std.specs.Prelude.{◌≡◌, ℕ, ◌≤◌, List, [], ◌∷◌, ◌++◌, IsTrue, length, nat_lt, Option, Some, None}
use Rattle.std.specs.List.{flat_map, list_all}
use Rattle.std.proofs.Common.{refl, ap, arith, length-append}
use Rattle.std.proofs.lemmas.Bool.{ltb-true}
use Rattle.ua_builtin.specs.Counted.{first_negative, null_count}
use Rattle.ua_builtin.specs.Exact.{Exact}
use Rattle.ua_builtin.specs.Format.{Format, IsLawful, Within, TakesSome, most_levels}
use Rattle.ua_builtin.specs.Number.{number_octets}
use Rattle.ua_wire.proofs.NumbersRead.{length-number_octets}
use Rattle.ua_wire.proofs.Leasts.{number_least}
use Rattle.ua_wire.proofs.Readers.{both_true, exact_same}
use Rattle.ua_opening.specs.Array.{EachEncoded, items_depth, items_count, EncodesArray, array_depth, array_count, array_fits, array_octets, array_at, array}
use Rattle.ua_opening.proofs.ArrayRead.{exact_array}

-- ---- levels

each_within : {A : Type 0} (p : A → List ℕ → Type 0) (depth : A → ℕ) (levels : ℕ) (v : List A) (b : List ℕ) → EachEncoded (Within p depth levels) v b
    → Within (EachEncoded p) (items_depth depth) levels v b
each_within p depth levels [] b h = (h, omega arith)
each_within p depth levels (x ∷ v) b h =
    let more = each_within p depth levels v h.1 h.4 in
    let here = h.3.1 in
    let deep = more.1 in
    ((h.0, h.1, h.2, h.3.0, more.0), omega (arith, here, deep))

within_each : {A : Type 0} (p : A → List ℕ → Type 0) (depth : A → ℕ) (levels : ℕ) (v : List A) (b : List ℕ)
    → Within (EachEncoded p) (items_depth depth) levels v b → EachEncoded (Within p depth levels) v b
within_each p depth levels [] b h = h.0
within_each p depth levels (x ∷ v) b h =
    let deep = h.1 in
    (h.0.0, h.0.1, h.0.2, (h.0.3, omega (arith, deep)), within_each p depth levels v h.0.1 (h.0.4, omega (arith, deep)))

array_within : {A : Type 0} (p : A → List ℕ → Type 0) (depth : A → ℕ) (levels : ℕ) (v : Option (List A)) (b : List ℕ) → EncodesArray (Within p depth levels) v b
    → Within (EncodesArray p) (array_depth depth) levels v b
array_within p depth levels None b h = (h, omega arith)
array_within p depth levels (Some v) b h = let w = each_within p depth levels v h.0 h.3 in ((h.0, h.1, h.2, w.0), w.1)

within_array : {A : Type 0} (p : A → List ℕ → Type 0) (depth : A → ℕ) (levels : ℕ) (v : Option (List A)) (b : List ℕ)
    → Within (EncodesArray p) (array_depth depth) levels v b → EncodesArray (Within p depth levels) v b
within_array p depth levels None b h = h.0
within_array p depth levels (Some v) b h = (h.0.0, h.0.1, h.0.2, within_each p depth levels v h.0.0 (h.0.3, h.1))

array_exact : {A : Type 0} (f : Format A) → IsLawful f → (levels : ℕ)
    → Exact (Within (EncodesArray f.encodes) (array_depth f.depth) levels) (array_at (f.decode levels))
array_exact f lawful levels =
    exact_same (EncodesArray (Within f.encodes f.depth levels)) (Within (EncodesArray f.encodes) (array_depth f.depth) levels) (array_at (f.decode levels))
    (array_within f.encodes f.depth levels) (within_array f.encodes f.depth levels)
    (exact_array (Within f.encodes f.depth levels) (f.decode levels) (lawful.exact levels))

-- ---- what is written

each_canonical : {A : Type 0} (f : Format A) → IsLawful f → (v : List A) → IsTrue (list_all f.encodable v) → EachEncoded f.encodes v (flat_map f.canonical v)
each_canonical f lawful [] h = refl
each_canonical f lawful (x ∷ v) h =
    let w = both_true (f.encodable x) (list_all f.encodable v) h in
    (f.canonical x, flat_map f.canonical v, refl, lawful.canonical_encodes x w.0, each_canonical f lawful v w.1)

array_canonical : {A : Type 0} (f : Format A) → IsLawful f → (v : Option (List A)) → IsTrue (array_fits f.encodable v)
    → EncodesArray f.encodes v (array_octets f.canonical v)
array_canonical f lawful None h = (null_count, omega arith, (omega arith, refl))
array_canonical f lawful (Some v) h =
    let w = both_true (nat_lt (length v) first_negative) (list_all f.encodable v) h in
    (flat_map f.canonical v, ltb-true (length v) first_negative w.0, refl, each_canonical f lawful v w.1)

each_depth : {A : Type 0} (f : Format A) → IsLawful f → (v : List A) → IsTrue (list_all f.encodable v) → items_depth f.depth v ≤ most_levels
each_depth f lawful [] h = omega arith
each_depth f lawful (x ∷ v) h =
    let w = both_true (f.encodable x) (list_all f.encodable v) h in
    let here = lawful.encodable_depth x w.0 in
    let deep = each_depth f lawful v w.1 in
    omega (arith, here, deep)

array_encodable_depth : {A : Type 0} (f : Format A) → IsLawful f → (v : Option (List A)) → IsTrue (array_fits f.encodable v)
    → array_depth f.depth v ≤ most_levels
array_encodable_depth f lawful None h = omega arith
array_encodable_depth f lawful (Some v) h = each_depth f lawful v (both_true (nat_lt (length v) first_negative) (list_all f.encodable v) h).1

-- ---- how many values

each_counted : {A : Type 0} (f : Format A) → IsLawful f → (v : List A) (b : List ℕ) → EachEncoded f.encodes v b → items_count f.count v ≤ length b
each_counted f lawful [] b h = omega arith
each_counted f lawful (x ∷ v) b h =
    let here : f.count x ≤ length h.0 = lawful.counted x h.0 h.3 in
    let more : items_count f.count v ≤ length h.1 = each_counted f lawful v h.1 h.4 in
    let len : length b ≡ length (h.0 ++ h.1) = ap length h.2 in
    omega (arith, here, more, len, length-append h.0 h.1)

array_counted : {A : Type 0} (f : Format A) → IsLawful f → (v : Option (List A)) (b : List ℕ) → EncodesArray f.encodes v b → array_count f.count v ≤ length b
array_counted f lawful None b h = omega arith
array_counted f lawful (Some v) b h =
    let most : items_count f.count v ≤ length h.0 = each_counted f lawful v h.0 h.3 in
    let len : length b ≡ length (number_octets 4 (length v) ++ h.0) = ap length h.2 in
    omega (arith, most, len, length-append (number_octets 4 (length v)) h.0)

-- ---- no encoding is empty

array_least : {A : Type 0} (p : A → List ℕ → Type 0) (v : Option (List A)) (b : List ℕ) → EncodesArray p v b → 4 ≤ length b
array_least p None b h = number_least 4 h.0 b h.2
array_least p (Some v) b h =
    let len : length b ≡ length (number_octets 4 (length v) ++ h.0) = ap length h.2 in
    omega (arith, len, length-append (number_octets 4 (length v)) h.0, length-number_octets 4 (length v))

array_starts : {A : Type 0} (p : A → List ℕ → Type 0) → TakesSome (EncodesArray p)
array_starts p v h = let some : 4 ≤ length {A = ℕ} [] = array_least p v [] h in absurd (omega arith)

pub lawful_array : {A : Type 0} {f : Format A} → IsLawful f → IsLawful (array f)
unfolding array
lawful_array {f = f} lawful = record {
  exact = array_exact f lawful;
  canonical_encodes = array_canonical f lawful;
  encodable_depth = array_encodable_depth f lawful;
  counted = array_counted f lawful;
  starts = array_starts f.encodes;
}
