-- Elements of arrays, one at a time.
use Rattle.std.proofs.Common.{◌≡◌, ℕ, zero, suc, ◌+◌, ◌<◌, List, [], ◌∷◌, ◌++◌, length, map, take, get_or, slice_get}
use Rattle.std.proofs.Common.{option_map, Option, Some, None, ℤ, refl, sym, ◌∙◌, ap, arith, append-nil, append_assoc}
use Rattle.std.specs.List.{flat_map}
use Rattle.std.proofs.lemmas.Grind.{flat_map-append}
use Rattle.ua_variant.specs.Data.{ScalarData}
use Rattle.ua_variant.specs.View.{many_of, row, row_list, variant_of}
use Rattle.ua_variant.specs.declared.values.Variant.{Variant}
use Rattle.ua_variant.specs.declared.values.Variant.TheVariants.{Many}
use Rattle.ua_texts.specs.Values.{array_text, parted, item_text, items_text, scalar_text, typed_text}

-- one text more
pub parted_more : (texts : List (List ℕ)) (text : List ℕ) → parted (texts ++ text ∷ []) ≡ parted texts ++ item_text (length texts) text
parted_more [] text = append-nil text
parted_more (first ∷ texts) text =
    ap (λ (t : List ℕ). first ++ t) (flat_map-append (λ (t : List ℕ). 44 ∷ t) texts (text ∷ [])
    ∙ ap (λ (t : List ℕ). flat_map (λ (u : List ℕ). 44 ∷ u) texts ++ t) (append-nil (44 ∷ text)))
    ∙ sym (append_assoc first (flat_map (λ (t : List ℕ). 44 ∷ t) texts) (44 ∷ text))

-- the elements up to a place, and the one there
pub take_next : {A : Type 0} (xs : List A) (n : ℕ) (x : A) → slice_get xs n ≡ Some x → take (suc n) xs ≡ take n xs ++ x ∷ []
take_next [] n x e = absurd cc
take_next (y ∷ ys) zero x e = let same : y ≡ x = cc in ap (λ t. t ∷ []) same
take_next (y ∷ ys) (suc n) x e = ap (λ t. y ∷ t) (take_next ys n x e)

pub length_next : {A : Type 0} (xs : List A) (n : ℕ) (x : A) → slice_get xs n ≡ Some x → length (take n xs) ≡ n
length_next [] n x e = absurd cc
length_next (y ∷ ys) zero x e = refl
length_next (y ∷ ys) (suc n) x e = ap suc (length_next ys n x e)

pub map_append : {A B : Type 0} (f : A → B) (xs ys : List A) → map f (xs ++ ys) ≡ map f xs ++ map f ys
map_append f [] ys = refl
map_append f (x ∷ xs) ys = ap (λ t. f x ∷ t) (map_append f xs ys)

pub map_length : {A B : Type 0} (f : A → B) (xs : List A) → length (map f xs) ≡ length xs
map_length f [] = refl
map_length f (x ∷ xs) = ap suc (map_length f xs)

pub items_more : (ss : List ScalarData) (n : ℕ) (s : ScalarData) → slice_get ss n ≡ Some s → items_text (take (suc n) ss) ≡ items_text (take n ss)
    ++ item_text n (scalar_text s)
items_more ss n s e =
    ap items_text (take_next ss n s e) ∙ ap parted (map_append scalar_text (take n ss) (s ∷ [])) ∙ parted_more (map scalar_text (take n ss)) (scalar_text s)
    ∙ ap (λ (k : ℕ). items_text (take n ss) ++ item_text k (scalar_text s)) (map_length scalar_text (take n ss) ∙ length_next ss n s e)

-- a row of elements, as the list of them
pub row_list_row : (ss : List ScalarData) → row_list (row ss) ≡ ss
row_list_row [] = refl
row_list_row (s ∷ ss) = ap (λ (t : List ScalarData). s ∷ t) (row_list_row ss)

array_typed : (k : ℕ) (items : Option (List ScalarData)) (ds : List ℤ) → typed_text (many_of k items ds) ≡ array_text k items
array_typed k None ds = refl
array_typed k (Some ss) ds = ap (λ (t : List ScalarData). array_text k (Some t)) (row_list_row ss)

pub typed_of : (value : Variant) (k : ℕ) (items : Option (List ScalarData)) (ds : List ℤ) → value ≡ Many k items ds
    → typed_text (variant_of value) ≡ array_text k items
typed_of value k items ds e = ap (λ (v : Variant). typed_text (variant_of v)) e ∙ array_typed k items ds

pub get_map : {A B : Type 0} (f : A → B) (xs : List A) (n : ℕ) → slice_get (map f xs) n ≡ option_map f (slice_get xs n)
get_map f [] n = refl
get_map f (x ∷ xs) zero = refl
get_map f (x ∷ xs) (suc n) = get_map f xs n

-- the elements up to the next place were added
pub items_next : {A : Type 0} (f : A → ScalarData) (xs : List A) (n : ℕ) (s : ScalarData) (start now new : List ℕ) → Some s ≡ option_map f (slice_get xs n)
    → now ≡ start ++ items_text (take n (map f xs)) → new ≡ now ++ item_text n (scalar_text s) → new ≡ start ++ items_text (take (n + 1) (map f xs))
items_next f xs n s start now new e h k =
    let more = items_more (map f xs) n s (get_map f xs n ∙ sym e) in
    let next : n + 1 ≡ suc n = omega arith in
    k ∙ ap (λ (t : List ℕ). t ++ item_text n (scalar_text s)) h ∙ append_assoc start (items_text (take n (map f xs))) (item_text n (scalar_text s))
    ∙ ap (λ (t : List ℕ). start ++ t) (sym more) ∙ ap (λ (m : ℕ). start ++ items_text (take m (map f xs))) (sym next)

-- the element at a place within
pub at_index : {A B : Type 0} (f : A → B) (xs : List A) (n : ℕ) (x : A) → n < length xs → x ≡ get_or xs n x → Some (f x) ≡ option_map f (slice_get xs n)
at_index f [] n x less e = absurd (omega arith)
at_index f (y ∷ ys) zero x less e = ap (λ t. Some (f t)) e
at_index f (y ∷ ys) (suc n) x less e = at_index f ys n x (omega arith) e

pub get_at : {A : Type 0} (xs : List A) (n : ℕ) (x : A) → n < length xs → x ≡ get_or xs n x → slice_get xs n ≡ Some x
get_at [] n x less e = absurd (omega arith)
get_at (y ∷ ys) zero x less e = ap Some (sym e)
get_at (y ∷ ys) (suc n) x less e = get_at ys n x (omega arith) e
