-- Lines with the last field in its exact form, one field at a time.
use Rattle.std.proofs.Common.{◌≡◌, ℕ, ◌≤◌, List, [], ◌∷◌, ◌++◌, length, map, Result, Ok, Err, OnOk, refl, sym, ◌∙◌, ap, arith, append-nil, append_assoc}
use Rattle.std.specs.List.{flat_map}
use Rattle.ua_nodes.proofs.Pieces.{pieces, at_least_one}
use Rattle.ua_answers.specs.PlainLines.{exact_fields, exact_last, exact_typed, tabbed}

-- fields behind one that was added, with a tab between, and the last one in its exact form
abbrev pub last_text : List ℕ → List (List ℕ) → List ℕ
last_text kind [] = []
last_text kind (text ∷ []) = exact_typed kind text
last_text kind (field ∷ (more ∷ rest)) = field ++ 9 ∷ last_text field (more ∷ rest)

tail_text : (f g : List ℕ) (rest : List (List ℕ)) → tabbed (exact_last (f ∷ (g ∷ rest))) ≡ f ++ 9 ∷ last_text f (g ∷ rest)
tail_text f g [] = ap (λ (t : List ℕ). f ++ t) (append-nil (9 ∷ exact_typed f g))
tail_text f g (h ∷ []) = ap (λ (t : List ℕ). f ++ 9 ∷ t) (tail_text g h [])
tail_text f g (h ∷ (k ∷ rest)) = ap (λ (t : List ℕ). f ++ 9 ∷ t) (tail_text g h (k ∷ rest))

all_text : (fields : List (List ℕ)) → tabbed (exact_last fields) ≡ last_text [] fields
all_text [] = refl
all_text (text ∷ []) = append-nil text
all_text (f ∷ (g ∷ rest)) = tail_text f g rest

-- no field was added
pub fields_start : (out line : List ℕ) → out ++ exact_fields line ≡ out ++ last_text [] (pieces 9 line)
unfolding exact_fields
fields_start out line = ap (λ (t : List ℕ). out ++ t) (all_text (pieces 9 line))

first_text : (kind field : List ℕ) (fields : List (List ℕ)) → 1 ≤ length fields → last_text kind (field ∷ fields) ≡ field ++ 9 ∷ last_text field fields
first_text kind field [] h = absurd (omega arith)
first_text kind field (more ∷ rest) h = refl

-- one field more was added
pub fields_more : (whole out new kind rest field more : List ℕ) → whole ≡ out ++ last_text kind (pieces 9 rest) → pieces 9 rest ≡ field ∷ pieces 9 more
    → new ≡ out ++ (field ++ 9 ∷ [])
    → whole ≡ new ++ last_text field (pieces 9 more)
fields_more whole out new kind rest field more h first e =
    let r = last_text field (pieces 9 more) in
    h ∙ ap (λ (t : List (List ℕ)). out ++ last_text kind t) first ∙ ap (λ (t : List ℕ). out ++ t) (first_text kind field (pieces 9 more) (at_least_one 9 more))
    ∙ ap (λ (t : List ℕ). out ++ t) (sym (append_assoc field (9 ∷ []) r)) ∙ sym (append_assoc out (field ++ 9 ∷ []) r) ∙ ap (λ (t : List ℕ). t ++ r) (sym e)

-- the last field was added
pub fields_last : {E : Type 0} (r : Result (Unit {0}) E) (old line out new kind rest : List ℕ)
    → old ++ exact_fields line ≡ out ++ last_text kind (pieces 9 rest) → pieces 9 rest ≡ rest ∷ []
    → OnOk r (new ≡ out ++ exact_typed kind rest) → OnOk r (new ≡ old ++ exact_fields line)
fields_last (Ok u) old line out new kind rest h last e = e ∙ sym (h ∙ ap (λ (t : List (List ℕ)). out ++ last_text kind t) last)
fields_last (Err x) old line out new kind rest h last e = tt

-- texts of what was made of elements
pub flat_of : {A B : Type 0} (f : B → List ℕ) (g : A → B) (xs : List A) → flat_map (λ x. f (g x)) xs ≡ flat_map f (map g xs)
flat_of f g [] = refl
flat_of f g (x ∷ xs) = ap (λ (t : List ℕ). f (g x) ++ t) (flat_of f g xs)

pub map_twice : {A B C : Type 0} (f : B → C) (g : A → B) (xs : List A) → map (λ x. f (g x)) xs ≡ map f (map g xs)
map_twice f g [] = refl
map_twice f g (x ∷ xs) = ap (λ t. f (g x) ∷ t) (map_twice f g xs)
