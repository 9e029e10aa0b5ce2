-- Binary trees, as lists of marks: this gives a recursive data type a code.
use Rattle.std.specs.Prelude.{◌≡◌, List, [], ◌∷◌, Option, Some, None, refl}
use Rattle.std.proofs.Common.{ap, ◌∙◌}
use Rattle.std.specs.Coded.{Coded, code_by, coded_list, coded_option}

-- a tree with its contents at the leaves
pub data Tree (P : Type 0) : Type 0 where
  tip : P → Tree P
  fork : Tree P → Tree P → Tree P

-- both sides and then a mark, before these marks
abbrev pub marks : {P : Type 0} → Tree P → List (Option P) → List (Option P)
marks (tip p) ms = Some p ∷ ms
marks (fork a b) ms = marks a (marks b (None ∷ ms))

-- the last two trees, joined
abbrev pub join_last : {P : Type 0} → List (Tree P) → List (Tree P)
join_last [] = []
join_last (b ∷ []) = b ∷ []
join_last (b ∷ a ∷ done) = fork a b ∷ done

-- the trees that the marks make, the last one first
abbrev pub trees_of : {P : Type 0} → List (Option P) → List (Tree P) → List (Tree P)
trees_of [] done = done
trees_of (Some p ∷ more) done = trees_of more (tip p ∷ done)
trees_of (None ∷ more) done = trees_of more (join_last done)

-- the first tree, or d if there is none
abbrev pub first_tree : {P : Type 0} → Tree P → List (Tree P) → Tree P
first_tree d [] = d
first_tree d (t ∷ ts) = t

pub trees_of-marks : {P : Type 0} (t : Tree P) (more : List (Option P)) (done : List (Tree P)) → trees_of (marks t more) done ≡ trees_of more (t ∷ done)
trees_of-marks (tip p) more done = refl
trees_of-marks (fork a b) more done = trees_of-marks a (marks b (None ∷ more)) done ∙ trees_of-marks b (None ∷ more) (a ∷ done)

-- a tree is coded as the list of its marks
abbrev pub coded_tree : {P : Type 0} → P → Coded P → Coded (Tree P)
coded_tree {P} d c =
    code_by (List (Option P)) (coded_list (coded_option c)) (λ t. marks t []) (λ ms. first_tree (tip d) (trees_of ms []))
    (λ t. ap (first_tree (tip d)) (trees_of-marks t [] []))
