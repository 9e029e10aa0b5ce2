-- Texts of elements with patterns in the place of decimals, one at a time.
use Rattle.std.proofs.Common.{◌≡◌, ℕ, suc, ◌+◌, ◌<◌, List, [], ◌∷◌, ◌++◌, length, map, take}
use Rattle.std.proofs.Common.{get_or, slice_get, Some, sym, ◌∙◌, ap, arith, append_assoc, take_all}
use Rattle.ua_texts.specs.Values.{parted, item_text}
use Rattle.ua_texts.proofs.Rows.{get_at, take_next, length_next, map_append, map_length, parted_more}

-- one text more
texts_more : {A : Type 0} (f : A → List ℕ) (xs : List A) (n : ℕ) (x : A) → slice_get xs n ≡ Some x
    → parted (map f (take (suc n) xs)) ≡ parted (map f (take n xs)) ++ item_text n (f x)
texts_more f xs n x e =
    ap (λ t. parted (map f t)) (take_next xs n x e) ∙ ap parted (map_append f (take n xs) (x ∷ [])) ∙ parted_more (map f (take n xs)) (f x)
    ∙ ap (λ (k : ℕ). parted (map f (take n xs)) ++ item_text k (f x)) (map_length f (take n xs) ∙ length_next xs n x e)

-- the texts up to the next place were added
pub texts_next : {A : Type 0} (f : A → List ℕ) (xs : List A) (n k : ℕ) (x : A) (start now new : List ℕ) → n ≡ k → (k < length xs) × (x ≡ get_or xs k x)
    → now ≡ start ++ parted (map f (take n xs)) → new ≡ now ++ item_text n (f x) → new ≡ start ++ parted (map f (take (n + 1) xs))
texts_next f xs n k x start now new e h i j =
    let at : slice_get xs n ≡ Some x = rw e (get_at xs k x h.0 h.1) in
    let next : n + 1 ≡ suc n = omega arith in
    j ∙ ap (λ (t : List ℕ). t ++ item_text n (f x)) i ∙ append_assoc start (parted (map f (take n xs))) (item_text n (f x))
    ∙ ap (λ (t : List ℕ). start ++ t) (sym (texts_more f xs n x at)) ∙ ap (λ (m : ℕ). start ++ parted (map f (take m xs))) (sym next)

-- all of them were added
pub texts_all : {A : Type 0} (f : A → List ℕ) (xs : List A) (n k : ℕ) (start now : List ℕ) → n ≡ k → k ≡ length xs → now ≡ start ++ parted (map f (take n xs))
    → now ≡ start ++ parted (map f xs)
texts_all f xs n k start now e h i =
    let whole : take n xs ≡ xs = take_all n xs (omega (arith, e, h)) in
    i ∙ ap (λ t. start ++ parted (map f t)) whole
