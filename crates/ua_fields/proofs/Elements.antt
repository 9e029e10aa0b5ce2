-- The elements of an array, one more.
use Rattle.std.proofs.Common.{◌≡◌, ℕ, zero, suc, ◌+◌, ◌<◌, List, [], ◌∷◌, length, map, take, get_or, refl, subst, arith}
use Rattle.ua_fields.specs.Tree.{AreElementsBehind, IsBehind, Tree, element_path, tree_elements}
use Rattle.ua_fields.specs.declared.style.FieldStyle.{FieldStyle}

next : {A : Type 0} (tree : A → Tree) (style : FieldStyle) (margin path : List ℕ) (index : ℕ) (old mid new : List ℕ) (items : List A) (n m : ℕ) (item : A)
    → n < length items → item ≡ get_or items n item → m ≡ index + n
    → AreElementsBehind style margin path index old (tree_elements (map tree (take n items))) mid
    → IsBehind style margin (element_path path m) mid (tree item) new
    → AreElementsBehind style margin path index old (tree_elements (map tree (take (suc n) items))) new
next tree style margin path index old mid new [] n m item less is at h k = absurd (omega arith)
next tree style margin path index old mid new (x ∷ xs) zero m item less is at h k =
    let here : m ≡ index = omega (arith, at) in
    let one = subst (λ (t : List ℕ). IsBehind style margin (element_path path m) t (tree item) new) h k in
    let two = subst (λ y. IsBehind style margin (element_path path m) old (tree y) new) is one in (
      new,
      subst (λ (i : ℕ). IsBehind style margin (element_path path i) old (tree x) new) here two,
      refl,
    )
next tree style margin path index old mid new (x ∷ xs) (suc n) m item less is at h k = (
  h.0,
  h.1,
  next tree style margin path (index + 1) h.0 mid new xs n m item (omega arith) is (omega (arith, at)) h.2 k,
)

-- the elements up to the next place are there
pub elements_next : {A : Type 0} (tree : A → Tree) (style : FieldStyle) (margin path : List ℕ) (old mid new : List ℕ) (items : List A) (n : ℕ) (item : A)
    → n < length items → item ≡ get_or items n item
    → AreElementsBehind style margin path 0 old (tree_elements (map tree (take n items))) mid
    → IsBehind style margin (element_path path n) mid (tree item) new
    → AreElementsBehind style margin path 0 old (tree_elements (map tree (take (n + 1) items))) new
elements_next {A = A} tree style margin path old mid new items n item less is h k =
    let more : suc n ≡ n + 1 = omega arith in
    subst (λ (i : ℕ). AreElementsBehind style margin path 0 old (tree_elements (map tree (take i items))) new) more
    (next tree style margin path 0 old mid new items n n item less is (omega arith) h k)
