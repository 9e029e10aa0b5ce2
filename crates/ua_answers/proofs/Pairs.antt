-- Members of arrays, and pairs of lists, one at a time.
use Rattle.std.proofs.Common.{◌≡◌, ℕ, zero, suc, ◌+◌, ◌<◌, List, [], ◌∷◌, ◌++◌, length, take, get_or, slice_get}
use Rattle.std.proofs.Common.{Option, Some, None, ℤ, refl, sym, ◌∙◌, ap, arith, append-nil, append_assoc}
use Rattle.ua_variant.specs.Data.{ScalarData}
use Rattle.ua_variant.specs.View.{many_of, variant_of}
use Rattle.ua_variant.specs.declared.values.Variant.{Variant}
use Rattle.ua_variant.specs.declared.values.Variant.TheVariants.{Many}
use Rattle.ua_texts.proofs.Rows.{get_at, row_list_row}
use Rattle.ua_answers.specs.Answers.{pairs_text}
use Rattle.ua_answers.specs.Json.{array_fields, variant_fields}
use Rattle.ua_answers.specs.Tokens.{fields_tokens}

array_fielded : (k : ℕ) (items : Option (List ScalarData)) (ds : List ℤ) → variant_fields (many_of k items ds) ≡ array_fields k items ds
array_fielded k None ds = refl
array_fielded k (Some ss) ds = ap (λ (t : List ScalarData). array_fields k (Some t) ds) (row_list_row ss)

pub fields_of : (value : Variant) (k : ℕ) (items : Option (List ScalarData)) (ds : List ℤ) → value ≡ Many k items ds
    → fields_tokens (variant_fields (variant_of value)) ≡ fields_tokens (array_fields k items ds)
fields_of value k items ds e = ap (λ (v : Variant). fields_tokens (variant_fields (variant_of v))) e ∙ ap fields_tokens (array_fielded k items ds)

-- ---- pairs

pairs_more : {A B : Type 0} (f : A → B → List ℕ) (xs : List A) (ys : List B) (n : ℕ) (x : A) (y : B) → slice_get xs n ≡ Some x → slice_get ys n ≡ Some y
    → pairs_text f (take (suc n) xs) (take (suc n) ys) ≡ pairs_text f (take n xs) (take n ys) ++ f x y
pairs_more f [] ys n x y e h = absurd cc
pairs_more f (a ∷ xs) [] n x y e h = absurd cc
pairs_more f (a ∷ xs) (b ∷ ys) zero x y e h =
    let left : a ≡ x = cc in
    let right : b ≡ y = cc in
    append-nil (f a b) ∙ ap (λ t. f t b) left ∙ ap (λ t. f x t) right
pairs_more f (a ∷ xs) (b ∷ ys) (suc n) x y e h =
    ap (λ (t : List ℕ). f a b ++ t) (pairs_more f xs ys n x y e h) ∙ sym (append_assoc (f a b) (pairs_text f (take n xs) (take n ys)) (f x y))

-- the texts of the pairs up to the next place were added
pub pairs_next : {A B : Type 0} (f : A → B → List ℕ) (xs : List A) (ys : List B) (n : ℕ) (x : A) (y : B) (start now new : List ℕ) → n < length xs
    → x ≡ get_or xs n x → n < length ys → y ≡ get_or ys n y
    → now ≡ start ++ pairs_text f (take n xs) (take n ys) → new ≡ now ++ f x y → new ≡ start ++ pairs_text f (take (n + 1) xs) (take (n + 1) ys)
pairs_next f xs ys n x y start now new a e b h i k =
    let more = pairs_more f xs ys n x y (get_at xs n x a e) (get_at ys n y b h) in
    let next : n + 1 ≡ suc n = omega arith in
    k ∙ ap (λ (t : List ℕ). t ++ f x y) i ∙ append_assoc start (pairs_text f (take n xs) (take n ys)) (f x y)
    ∙ ap (λ (t : List ℕ). start ++ t) (sym more) ∙ ap (λ (m : ℕ). start ++ pairs_text f (take m xs) (take m ys)) (sym next)

-- the element at a place within is one, whatever stands for none
pub same_item : {A : Type 0} (xs : List A) (n : ℕ) (d : A) → n < length xs → get_or xs n d ≡ get_or xs n (get_or xs n d)
same_item [] n d less = absurd (omega arith)
same_item (x ∷ xs) zero d less = refl
same_item (x ∷ xs) (suc n) d less = same_item xs n d (omega arith)
