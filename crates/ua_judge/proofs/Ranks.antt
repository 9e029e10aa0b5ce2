-- Which element is the last one that passes.
use Rattle.std.proofs.Common.{◌≡◌, ℕ, suc, ◌+◌, ◌-◌, ◌<◌, ◌≤◌, Bool, true, false, cond, List, [], ◌∷◌, ◌++◌, length, take, get_or, refl, sym, ◌∙◌, ap, arith}
use Rattle.std.proofs.lemmas.List.{length-take-le, take_more}
use Rattle.ua_judge.specs.Names.{rank, counted_on}

counted_last : (b : Bool) → counted_on 0 b ≡ cond b 1 0
counted_last true = refl
counted_last false = refl

counted_by : (n m : ℕ) (b c : Bool) → counted_on (cond b (suc n) m) c ≡ cond b (suc (suc n)) (counted_on m c)
counted_by n m true c = refl
counted_by n m false c = refl

pub rank_more : {A : Type 0} (p : A → Bool) (xs : List A) (x : A) → rank p (xs ++ x ∷ []) ≡ cond (p x) (suc (length xs)) (rank p xs)
rank_more p [] x = counted_last (p x)
rank_more p (y ∷ ys) x = ap (λ (n : ℕ). counted_on n (p y)) (rank_more p ys x) ∙ counted_by (length ys) (rank p ys) (p x) (p y)

pub rank_here : {A : Type 0} (p : A → Bool) (xs : List A) (i : ℕ) (d : A) → i < length xs → p (get_or xs i d) ≡ true → rank p (take (i + 1) xs) ≡ i + 1
rank_here p xs i d below e =
    let len : length (take i xs) ≡ i = length-take-le i xs (omega arith) in
    let count : suc (length (take i xs)) ≡ i + 1 = omega (arith, len) in
    ap (rank p) (take_more xs i d below)
    ∙ (rank_more p (take i xs) (get_or xs i d) ∙ (ap (λ (b : Bool). cond b (suc (length (take i xs))) (rank p (take i xs))) e ∙ count))

pub rank_past : {A : Type 0} (p : A → Bool) (xs : List A) (i : ℕ) (d : A) → i < length xs → p (get_or xs i d) ≡ false
    → rank p (take (i + 1) xs) ≡ rank p (take i xs)
rank_past p xs i d below e =
    ap (rank p) (take_more xs i d below)
    ∙ (rank_more p (take i xs) (get_or xs i d) ∙ ap (λ (b : Bool). cond b (suc (length (take i xs))) (rank p (take i xs))) e)

pub rank_found : {A : Type 0} (p : A → Bool) (xs : List A) (at : ℕ) (d : A) → 0 < at → at ≤ length xs → rank p xs ≡ rank p (take at xs)
    → p (get_or xs (at - 1) d) ≡ true → at ≡ rank p xs
rank_found p xs at d some within none e =
    let here : at ≡ (at - 1) + 1 = omega arith in
    here ∙ (sym (rank_here p xs (at - 1) d (omega arith) e) ∙ (ap (λ (n : ℕ). rank p (take n xs)) (sym here) ∙ sym none))

pub rank_on : {A : Type 0} (p : A → Bool) (xs : List A) (at : ℕ) (d : A) → 0 < at → at ≤ length xs → rank p xs ≡ rank p (take at xs)
    → p (get_or xs (at - 1) d) ≡ false → rank p xs ≡ rank p (take (at - 1) xs)
rank_on p xs at d some within none e =
    let here : at ≡ (at - 1) + 1 = omega arith in
    none ∙ (ap (λ (n : ℕ). rank p (take n xs)) here ∙ rank_past p xs (at - 1) d (omega arith) e)
