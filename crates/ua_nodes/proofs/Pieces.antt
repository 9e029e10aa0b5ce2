-- The pieces of a text round an octet, one at a time.
use Rattle.std.proofs.Common.{◌≡◌, ◌≢◌, ℕ, zero, suc, ◌<◌, List, [], ◌∷◌, ◌++◌, length, get_or, nat_eq, Option, Some}
use Rattle.std.proofs.Common.{None, MatchOption, refl, sym, ◌∙◌, ap, arith, Bool, true, false, ◌≤◌, true≢false}
use Rattle.std.specs.List.{slice_split, onto_first}
use Rattle.std.proofs.lemmas.Bool.{eq-eqb, ne_eqb}
use Rattle.std.proofs.lemmas.List.Splits.{slice_split-cons_yes, slice_split-cons_no, length-slice_split}
use Rattle.std.proofs.lemmas.Str.Pattern.{IsSplitOnceResult, split_parts}
use denote.Ref.{Bor}

-- the pieces round the octet c
abbrev pub pieces : ℕ → List ℕ → List (List ℕ)
pieces c text = slice_split (λ b. nat_eq b c) text

pub pieces_none : (c : ℕ) (text : List ℕ) → ((i : ℕ) → i < length text → get_or text i 0 ≢ c) → pieces c text ≡ text ∷ []
pieces_none c [] h = refl
pieces_none c (x ∷ xs) h =
    let ne : x ≢ c = h 0 (omega arith) in
    slice_split-cons_no (λ b. nat_eq b c) x xs (ne_eqb x c ne) ∙ ap (onto_first x) (pieces_none c xs (λ i less. h (suc i) (omega arith)))

pub pieces_at : (c : ℕ) (front back : List ℕ) → ((i : ℕ) → i < length front → get_or front i 0 ≢ c) → pieces c (front ++ (c ∷ back)) ≡ front ∷ pieces c back
pieces_at c [] back h = slice_split-cons_yes (λ b. nat_eq b c) c back (eq-eqb c c refl)
pieces_at c (x ∷ xs) back h =
    let ne : x ≢ c = h 0 (omega arith) in
    slice_split-cons_no (λ b. nat_eq b c) x (xs ++ (c ∷ back)) (ne_eqb x c ne) ∙ ap (onto_first x) (pieces_at c xs back (λ i less. h (suc i) (omega arith)))

-- what `split_once` answers is the first piece and the text of the others
pub pieces_once : (c : ℕ) (text : List ℕ) (r : Option (Bor (List ℕ) × Bor (List ℕ))) → c < 128 → IsSplitOnceResult c text r
    → MatchOption r (pieces c text ≡ text ∷ []) (λ x. pieces c text ≡ x.0.now ∷ pieces c x.1.now)
pieces_once c text r small h = by r (split_parts c text r h small)
  where
    by : (o : Option (Bor (List ℕ) × Bor (List ℕ)))
        → MatchOption o ((i : ℕ) → i < length text → get_or text i 0 ≢ c)
        (λ x. (text ≡ x.0.now ++ (c ∷ x.1.now)) × ((i : ℕ) → i < length x.0.now → get_or x.0.now i 0 ≢ c))
        → MatchOption o (pieces c text ≡ text ∷ []) (λ x. pieces c text ≡ x.0.now ∷ pieces c x.1.now)
    by None h = pieces_none c text h
    by (Some x) h = ap (pieces c) h.0 ∙ pieces_at c x.0.now x.1.now h.1

length_onto : (x : ℕ) (parts : List (List ℕ)) → length parts ≤ length (onto_first x parts)
length_onto x [] = omega arith
length_onto x (part ∷ parts) = omega arith

pub at_least_one : (c : ℕ) (text : List ℕ) → 1 ≤ length (pieces c text)
at_least_one c text = omega (arith, length-slice_split (λ (b : ℕ). nat_eq b c) text)

-- where the octet stands in a text there are two pieces or more
pub pieces_two : (c : ℕ) (text : List ℕ) (k : ℕ) → k < length text → get_or text k 0 ≡ c → 2 ≤ length (pieces c text)
pieces_two c [] k less e = absurd (omega arith)
pieces_two c (x ∷ xs) zero less e =
    let parts : pieces c (x ∷ xs) ≡ [] ∷ pieces c xs = slice_split-cons_yes (λ b. nat_eq b c) x xs (eq-eqb x c e) in
    let more = at_least_one c xs in
    let long = ap length parts in
    omega arith
pieces_two c (x ∷ xs) (suc k) less e = by (nat_eq x c) refl (pieces_two c xs k (omega arith) e)
  where
    by : (t : Bool) → nat_eq x c ≡ t → 2 ≤ length (pieces c xs) → 2 ≤ length (pieces c (x ∷ xs))
    by true p two =
        let long = ap length (slice_split-cons_yes (λ b. nat_eq b c) x xs p) in
        omega arith
    by false p two =
        let long = ap length (slice_split-cons_no (λ b. nat_eq b c) x xs p) in
        let onto = length_onto x (pieces c xs) in
        omega arith

-- what `contains` tells of the pieces
pub pieces_contains : (c : ℕ) (text : List ℕ) (r : Bool) → (r ≡ true → (k : ℕ) × (k < length text) × (get_or text k 0 ≡ c))
    × ((k : ℕ) → k < length text → get_or text k 0 ≡ c → r ≡ true)
    → (r ≡ true → 2 ≤ length (pieces c text)) × (r ≡ false → pieces c text ≡ text ∷ [])
pieces_contains c text r h = (
  λ e. let w = h.0 e in pieces_two c text w.0 w.1 w.2,
  λ e. pieces_none c text (λ i less there. true≢false (sym (h.1 i less there) ∙ e)),
)
