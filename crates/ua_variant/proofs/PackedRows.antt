-- Rows whose elements are held in a vector of their own type.
use Rattle.std.proofs.Common.{◌≡◌, ◌≢◌, ℕ, ◌+◌, ◌<◌, Bool, true, false, ◌&&◌, eqb, List, [], ◌∷◌, ◌++◌}
use Rattle.std.proofs.Common.{length, get_or, take, drop, map, refl, sym, ap, ◌∙◌, append_assoc, arith}
use Rattle.std.proofs.lemmas.List.{take_more, take-map, drop-map}
use Rattle.std.proofs.lemmas.List.Recursion.{and_push, and_fails_at}
use Rattle.ua_variant.specs.Canonical.{row_canonical}
use Rattle.ua_variant.specs.Data.{LeafData, ScalarData, leaf}
use Rattle.ua_variant.specs.Encodable.{row_length, scalars_fit}
use Rattle.ua_variant.specs.Leaf.{leaf_canonical, leaf_encodable, leaf_kind}
use Rattle.ua_variant.specs.Measure.{scalars_count, scalars_depth}
use Rattle.ua_variant.specs.View.{row}
use Rattle.ua_variant.proofs.BlocksRead.{leaves_push}
use Rattle.ua_variant.proofs.Fits.{and_false, other_kind}
use Rattle.ua_variant.proofs.Written.{row_push}

-- ---- measures

depth_leaves : (ls : List LeafData) → scalars_depth (row (map leaf ls)) ≡ 0
depth_leaves [] = refl
depth_leaves (l ∷ ls) = omega (arith, depth_leaves ls)

count_leaves : (ls : List LeafData) → scalars_count (row (map leaf ls)) ≡ length ls
count_leaves [] = refl
count_leaves (l ∷ ls) = omega (arith, count_leaves ls)

pub packed_depth : (ls : List LeafData) (all : List ScalarData) → map leaf ls ≡ all → scalars_depth (row all) ≡ 0
packed_depth ls all e = sym (ap (λ xs. scalars_depth (row xs)) e) ∙ depth_leaves ls

pub packed_count : (ls : List LeafData) (all : List ScalarData) → map leaf ls ≡ all → scalars_count (row all) ≡ length ls
packed_count ls all e = sym (ap (λ xs. scalars_count (row xs)) e) ∙ count_leaves ls

pub length_row : (all : List ScalarData) → length all ≡ row_length (row all)
length_row [] = refl
length_row (s ∷ all) = omega (arith, length_row all)

-- ---- parts

pub part_of : {X Y : Type 0} (f : X → Y) (from n : ℕ) (xs : List X) (all : List Y) → map f xs ≡ all → map f (take n (drop from xs)) ≡ take n (drop from all)
part_of f from n xs all e = sym (ap (take n) (drop-map f from xs) ∙ take-map f n (drop from xs)) ∙ ap (λ ys. take n (drop from ys)) e

-- ---- what can be written

-- a leaf of the type id that can be written
abbrev leaf_fits : ℕ → LeafData → Bool
leaf_fits k l = eqb (leaf_kind l) k && leaf_encodable l

-- the elements so far fit, with one more
pub leaves_fit_after : {X : Type 0} (f : X → LeafData) (k : ℕ) (xs : List X) (i : ℕ) (x : X) → i < length xs → x ≡ get_or xs i x
    → scalars_fit k (row (map leaf (map f (take i xs)))) ≡ true → eqb (leaf_kind (f x)) k ≡ true → leaf_encodable (f x) ≡ true
    → scalars_fit k (row (map leaf (map f (take (i + 1) xs)))) ≡ true
leaves_fit_after {X} f k xs i x h is before kind fits =
    ap (λ (ys : List X). scalars_fit k (row (map leaf (map f ys)))) (take_more xs i x h)
    ∙ and_push (λ (ys : List X). scalars_fit k (row (map leaf (map f ys)))) (λ y. leaf_fits k (f y)) refl (λ _ _. refl) (take i xs) (get_or xs i x)
    ∙ ap (λ y. scalars_fit k (row (map leaf (map f (take i xs)))) && leaf_fits k (f y)) (sym is)
    ∙ ap (λ b. b && leaf_fits k (f x)) before ∙ ap (λ b. b && leaf_encodable (f x)) kind ∙ fits

-- one that does not fit
pub leaves_fit_fails : {X : Type 0} (f : X → LeafData) (k : ℕ) (xs : List X) (i : ℕ) (x : X) → i < length xs → x ≡ get_or xs i x → leaf_fits k (f x) ≡ false
    → scalars_fit k (row (map leaf (map f xs))) ≡ false
leaves_fit_fails {X} f k xs i x h is refused = and_fails_at (λ (ys : List X). scalars_fit k (row (map leaf (map f ys)))) (λ y. leaf_fits k (f y)) refl
    (λ _ _. refl) xs i x h (ap (λ y. leaf_fits k (f y)) (sym is) ∙ refused)

pub other_leaf : (k : ℕ) (l : LeafData) (own : ℕ) → leaf_kind l ≡ own → own ≢ k → leaf_fits k l ≡ false
other_leaf k l own is h = ap (λ b. b && leaf_encodable l) (ap (λ i. eqb i k) is ∙ other_kind own k h)

pub unfit_leaf : (k : ℕ) (l : LeafData) → leaf_encodable l ≡ false → leaf_fits k l ≡ false
unfit_leaf k l h = and_false (eqb (leaf_kind l) k) (leaf_encodable l) h

-- ---- what is written

pub leaves_after : {X : Type 0} (f : X → LeafData) (old : List ℕ) (xs : List X) (i : ℕ) (x : X) → i < length xs → x ≡ get_or xs i x
    → (old ++ row_canonical (row (map leaf (map f (take i xs))))) ++ leaf_canonical (f x) ≡ old ++ row_canonical (row (map leaf (map f (take (i + 1) xs))))
leaves_after {X} f old xs i x h is =
    append_assoc old (row_canonical (row (map leaf (map f (take i xs))))) (leaf_canonical (f x))
    ∙ ap (λ r. old ++ r) (ap (λ y. row_canonical (row (map leaf (map f (take i xs)))) ++ leaf_canonical (f y)) is
    ∙ sym (ap (λ (ys : List X). row_canonical (row (map leaf (map f ys)))) (take_more xs i x h)
    ∙ ap (λ ys. row_canonical (row ys)) (leaves_push f (take i xs) (get_or xs i x)) ∙ row_push (map leaf (map f (take i xs))) (leaf (f (get_or xs i x)))))

-- ---- what was added before a fault
