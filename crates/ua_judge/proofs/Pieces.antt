-- Bytes up to a place, and the next of them.
use Rattle.std.proofs.Common.{◌≡◌, ℕ, zero, suc, ◌+◌, ◌≤◌, List, [], ◌∷◌, ◌++◌, length, take, drop, refl, sym, ◌∙◌, ap, arith}
use Rattle.std.proofs.lemmas.List.{take-take, length-take, length-drop}

take-none : {A : Type 0} (n : ℕ) → take {A = A} n [] ≡ []
take-none zero = refl
take-none (suc n) = refl

pub take_on : {A : Type 0} (xs : List A) (i n : ℕ) → take i xs ++ take n (drop i xs) ≡ take (i + n) xs
take_on xs zero n = ap (λ (m : ℕ). take m xs) (omega arith)
take_on [] (suc i) n = take-none n ∙ sym (take-none (suc i + n))
take_on {A = A} (x ∷ xs) (suc i) n =
    let here : suc (i + n) ≡ suc i + n = omega arith in
    ap (λ (t : List A). x ∷ t) (take_on xs i n) ∙ ap (λ (m : ℕ). take m (x ∷ xs)) here

-- the next bytes that are taken of those between two places
pub take_next : {A : Type 0} (xs : List A) (i m n : ℕ) → n ≤ length (take m (drop i xs)) → take i xs ++ take n (take m (drop i xs)) ≡ take (i + n) xs
take_next {A = A} xs i m n within =
    let few : n ≤ m = omega (arith, within, length-take m (drop i xs)) in
    ap (λ (t : List A). take i xs ++ t) (take-take n m (drop i xs) few) ∙ take_on xs i n

pub next_within : {A : Type 0} (xs : List A) (i m n : ℕ) → i ≤ length xs → n ≤ length (take m (drop i xs)) → i + n ≤ length xs
next_within xs i m n inside within = omega (arith, inside, within, length-take m (drop i xs), length-drop i xs)

-- the same of a fragment that is those bytes
pub parts_of : {A : Type 0} (xs piece : List A) (i m n : ℕ) → n ≤ length piece → piece ≡ take m (drop i xs) → take i xs ++ take n piece ≡ take (i + n) xs
parts_of {A = A} xs piece i m n few is = ap (λ (t : List A). take i xs ++ take n t) is ∙ take_next xs i m n (omega (arith, few, ap length is))

pub next_at : {A : Type 0} (xs piece : List A) (i m n : ℕ) → i ≤ length xs → n ≤ length piece → piece ≡ take m (drop i xs) → i + n ≤ length xs
next_at xs piece i m n inside few is = next_within xs i m n inside (omega (arith, few, ap length is))
