-- Lists that begin alike.
use Rattle.std.proofs.Common.{◌≡◌, ◌⊎◌, inl, inr, List, [], ◌∷◌, ◌++◌, length, refl, sym, ◌∙◌, ap, arith, length-append}

pub same_next : {A : Type 0} (x y : A) (xs ys : List A) → x ∷ xs ≡ y ∷ ys → (x ≡ y) × (xs ≡ ys)
same_next x y xs ys e = (cc, cc)

-- all but the last of a list, where something stands behind another
pub split_last : {A : Type 0} (front fs gs : List A) (x g : A) → front ++ x ∷ [] ≡ fs ++ (g ∷ gs) → (middle : List A) × (front ≡ fs ++ middle)
split_last front [] gs x g e = (front, refl)
split_last [] (f ∷ fs) gs x g e = absurd (omega (arith, ap length e, length-append fs (g ∷ gs)))
split_last (y ∷ front) (f ∷ fs) gs x g e =
    let parts = same_next y f (front ++ x ∷ []) (fs ++ (g ∷ gs)) e in
    let rest = split_last front fs gs x g parts.1 in
    (rest.0, ap (λ z. z ∷ front) parts.0 ∙ ap (λ zs. f ∷ zs) rest.1)

-- of two lists that begin the same one, one begins the other
pub meets : {A : Type 0} (xs ys us vs : List A) → xs ++ us ≡ ys ++ vs → ((more : List A) × (ys ≡ xs ++ more)) ⊎ ((more : List A) × (xs ≡ ys ++ more))
meets [] ys us vs e = inl (ys, refl)
meets (x ∷ xs) [] us vs e = inr (x ∷ xs, refl)
meets {A = A} (x ∷ xs) (y ∷ ys) us vs e =
    let parts = same_next x y (xs ++ us) (ys ++ vs) e in
    by parts.0 (meets xs ys us vs parts.1)
  where
    by : x ≡ y → (((more : List A) × (ys ≡ xs ++ more)) ⊎ ((more : List A) × (xs ≡ ys ++ more))) → ((more : List A) × (y ∷ ys ≡ (x ∷ xs) ++ more))
        ⊎ ((more : List A) × (x ∷ xs ≡ (y ∷ ys) ++ more))
    by same (inl p) = inl (p.0, ap (λ z. z ∷ ys) (sym same) ∙ ap (λ zs. x ∷ zs) p.1)
    by same (inr p) = inr (p.0, ap (λ z. z ∷ xs) same ∙ ap (λ zs. y ∷ zs) p.1)
