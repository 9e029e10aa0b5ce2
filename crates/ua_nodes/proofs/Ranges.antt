-- Index ranges: what their texts name, and the elements at their places.
use Rattle.std.proofs.Common.{◌≡◌, ◌≢◌, ℕ, zero, suc, ◌+◌, ◌-◌, ◌<◌, min, max, Bool, true, false, ◌&&◌, cond, leb, nat_lt, List, []}
use Rattle.std.proofs.Common.{◌∷◌, length, get_or, take, drop, Option, Some, None, ℤ, refl, sym, ◌∙◌, ap, subst, arith, true≢false}
use Rattle.std.specs.Char.{digit_value}
use Rattle.std.specs.List.{join_with_byte}
use Rattle.std.proofs.lemmas.Bool.{leb-true, leb-false}
use Rattle.std.proofs.lemmas.List.{take_min, drop_min, length-drop}
use Rattle.std.proofs.lemmas.List.Splits.{join_with_byte-slice_split}
use Rattle.ua_builtin.specs.Exact.{◌>>=◌}
use Rattle.ua_nodes.specs.declared.range.IndexRange.{IndexRange}
use Rattle.ua_variant.specs.Data.{ScalarData, many}
use Rattle.ua_variant.specs.View.{row, row_list, many_of}
use Rattle.ua_nodes.specs.Range.{places, single_index, between, range, range_between, ranged_from, ranged, list_in, elements_of_array, range_part_of}
use Rattle.ua_nodes.specs.ValueText.{all_digits, is_numeral, unsigned_denoted}
use Rattle.ua_nodes.proofs.Pieces.{pieces, pieces_none, at_least_one}
use Rattle.ua_wire.proofs.Readers.{both_true}

-- ---- texts

-- digits are no colon
no_colon : (text : List ℕ) → all_digits 10 text ≡ true → (i : ℕ) → i < length text → get_or text i 0 ≢ 58
no_colon [] h i less e = omega arith
no_colon (c ∷ cs) h zero less e =
    let digit = (both_true (nat_lt (digit_value c) 10) (all_digits 10 cs) h).0 in
    let P : ℕ → Type 0 = λ t. nat_lt (digit_value t) 10 ≡ true in
    true≢false (sym (subst P e digit))
no_colon (c ∷ cs) h (suc i) less e = no_colon cs (both_true (nat_lt (digit_value c) 10) (all_digits 10 cs) h).1 i (omega arith) e

-- a text that a colon cuts is no number
cut_number : (text p q : List ℕ) (more : List (List ℕ)) → pieces 58 text ≡ p ∷ q ∷ more → unsigned_denoted 32 text ≡ None
cut_number text p q more e = by (is_numeral 10 text) refl
  where
    by : (t : Bool) → is_numeral 10 text ≡ t → unsigned_denoted 32 text ≡ None
    by true h =
        let digits = (both_true (nat_lt 0 (length text)) (all_digits 10 text) h).1 in
        let one : pieces 58 text ≡ text ∷ [] = pieces_none 58 text (no_colon text digits) in
        absurd cc
    by false h = rw h refl

nothing_then : {A B : Type 0} (o : Option A) → ◌≡◌ {A = Option B} None (o >>= λ x. None)
nothing_then None = refl
nothing_then (Some x) = refl

-- a text that a colon cuts
pub range_cut : (text front back : List ℕ) → pieces 58 text ≡ front ∷ pieces 58 back → between front back ≡ range text
range_cut text front back e = by (pieces 58 back) refl ∙ sym (ap range_between e)
  where
    by : (ps : List (List ℕ)) → pieces 58 back ≡ ps → between front back ≡ range_between (front ∷ ps)
    by [] h = absurd (omega (arith, at_least_one 58 back, ap length h))
    by (p ∷ []) h = ap (between front) (sym (join_with_byte-slice_split 58 back) ∙ ap (join_with_byte 58) h)
    by (p ∷ q ∷ more) h =
        let none = cut_number back p q more h in
        ap (λ (b : Option ℕ). unsigned_denoted 32 front >>= λ first. b >>= λ last. cond (nat_lt first last) (Some (places first last)) None) none
        ∙ sym (nothing_then (unsigned_denoted 32 front))

-- a text without a colon
pub range_whole : (text : List ℕ) → pieces 58 text ≡ text ∷ [] → single_index text ≡ range text
range_whole text e = sym (ap range_between e)

-- ---- elements

take_none : {A : Type 0} (n : ℕ) → [] ≡ take {A = A} n []
take_none zero = refl
take_none (suc n) = refl

drop_none : {A : Type 0} (n : ℕ) → [] ≡ drop {A = A} n []
drop_none zero = refl
drop_none (suc n) = refl

-- from a place on
ranged_at : {A : Type 0} (r : IndexRange) (p : ℕ) (xs : List A) → ranged_from r p xs ≡ take (r.last + 1 - max p r.first) (drop (r.first - p) xs)
ranged_at r p [] = take_none (r.last + 1 - max p r.first) ∙ ap (take (r.last + 1 - max p r.first)) (drop_none (r.first - p))
ranged_at {A = A} r p (x ∷ xs) = by (leb r.first p) (leb p r.last) refl refl (ranged_at r (suc p) xs)
  where
    k : ℕ
    k = r.last + 1 - max (suc p) r.first

    by : (a b : Bool) → leb r.first p ≡ a → leb p r.last ≡ b → ranged_from r (suc p) xs ≡ take (r.last + 1 - max (suc p) r.first) (drop (r.first - suc p) xs)
        → cond (a && b) (x ∷ ranged_from r (suc p) xs) (ranged_from r (suc p) xs) ≡ take (r.last + 1 - max p r.first) (drop (r.first - p) (x ∷ xs))
    by true true e f h =
        let low = leb-true r.first p e in
        let high = leb-true p r.last f in
        let m : r.last + 1 - max p r.first ≡ suc (r.last + 1 - max (suc p) r.first) = omega arith in
        let z : r.first - p ≡ 0 = omega arith in
        let y : r.first - suc p ≡ 0 = omega arith in
        rw (m, z) (ap (λ (t : List A). x ∷ t) (h ∙ ap (λ (d : ℕ). take (r.last + 1 - max (suc p) r.first) (drop d xs)) y))
    by true false e f h =
        let high = leb-false p r.last f in
        let m : r.last + 1 - max p r.first ≡ 0 = omega arith in
        let n : r.last + 1 - max (suc p) r.first ≡ 0 = omega arith in
        rw m (h ∙ ap (λ (t : ℕ). take t (drop (r.first - suc p) xs)) n)
    by false b e f h =
        let low = leb-false r.first p e in
        let m : r.last + 1 - max p r.first ≡ r.last + 1 - max (suc p) r.first = omega arith in
        let d : r.first - p ≡ suc (r.first - suc p) = omega arith in
        rw (m, d) h

pub ranged_is : {A : Type 0} (r : IndexRange) (xs : List A) → ranged r xs ≡ take (r.last + 1 - r.first) (drop r.first xs)
ranged_is r xs =
    let m : max 0 r.first ≡ r.first = omega arith in
    let d : r.first - 0 ≡ r.first = omega arith in
    ranged_at r 0 xs ∙ ap (λ (t : ℕ). take (r.last + 1 - t) (drop (r.first - 0) xs)) m ∙ ap (λ (t : ℕ). take (r.last + 1 - r.first) (drop t xs)) d

row_back : (ss : List ScalarData) → row_list (row ss) ≡ ss
row_back [] = refl
row_back (s ∷ ss) = ap (λ (t : List ScalarData). s ∷ t) (row_back ss)

-- the elements of an array of the code
pub elements_many : (kind : ℕ) (items : Option (List ScalarData)) (ds : List ℤ) → elements_of_array (many_of kind items ds) ≡ list_in items
elements_many kind None ds = refl
elements_many kind (Some ss) ds = row_back ss

-- the part of an array of the code
pub part_many : (r : IndexRange) (kind : ℕ) (items : Option (List ScalarData)) (ds : List ℤ)
    → range_part_of r (many_of kind items ds) ≡ many kind (row (ranged r (list_in items))) []
part_many r kind None ds = refl
part_many r kind (Some ss) ds = ap (λ (t : List ScalarData). many kind (row (ranged r t)) []) (row_back ss)

-- the part of a list that is cut out of it
pub cut_is : {X : Type 0} (r : IndexRange) (items : List X) (k n m : ℕ) → k ≡ min r.first (length items) → n ≡ r.last + 1 - r.first
    → m ≡ min n (length items - k)
    → take (k + m - k) (drop k items) ≡ ranged r items
cut_is r items k n m at long most =
    let many : k + m - k ≡ min n (length (drop k items)) = omega (arith, most, length-drop k items) in
    ap (λ (t : ℕ). take t (drop k items)) many ∙ take_min n (drop k items) ∙ ap (λ (t : ℕ). take n (drop t items)) at ∙ ap (take n) (drop_min r.first items)
    ∙ ap (λ (t : ℕ). take t (drop r.first items)) long ∙ sym (ranged_is r items)
