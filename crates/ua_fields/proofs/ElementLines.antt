-- The elements of arrays.
use Rattle.std.proofs.Common.{◌≡◌, ℕ, ◌+◌, List, [], ◌∷◌, ◌++◌, length, map, Result, Ok, Err, OnOk, refl, ◌∙◌, ap, sym, subst, arith}
use Rattle.std.specs.Fmt.{decimal}
use Rattle.ua_fields.specs.Tree.{AreElementsBehind, IsBehind, Tree, array, count, deeper, elements, line, tree_elements}
use Rattle.ua_fields.specs.declared.style.FieldStyle.{FieldStyle}

-- as many elements as values
pub count_of : {A : Type 0} (tree : A → Tree) (items : List A) → count (tree_elements (map tree items)) ≡ length items
count_of tree [] = refl
count_of tree (x ∷ items) = ap (λ (n : ℕ). 1 + n) (count_of tree items) ∙ omega arith

-- the count of an array, and its elements one level deeper
pub items_behind : {E A : Type 0} (r : Result (Unit {0}) E) (tree : A → Tree) (style : FieldStyle) (margin inner path old mid new : List ℕ) (items : List A)
    → inner ≡ deeper margin → mid ≡ old ++ line margin path (decimal (length items))
    → OnOk r (AreElementsBehind style inner path 0 mid (tree_elements (map tree items)) new)
    → OnOk r (IsBehind style margin path old (array (elements (tree_elements (map tree items)))) new)
items_behind (Ok u) tree style margin inner path old mid new items deep counted h =
    let start = counted ∙ ap (λ (n : ℕ). old ++ line margin path (decimal n)) (sym (count_of tree items)) in
    let one = subst (λ (m : List ℕ). AreElementsBehind style m path 0 mid (tree_elements (map tree items)) new) deep h in
    subst (λ (m : List ℕ). AreElementsBehind style (deeper margin) path 0 m (tree_elements (map tree items)) new) start one
items_behind (Err e) tree style margin inner path old mid new items deep counted h = tt
