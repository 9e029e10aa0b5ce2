-- What a search in the rising codes of a table finds.
use Rattle.std.proofs.Common.{◌≡◌, ℕ, zero, suc, ◌<◌, ◌≤◌, Bool, true, false, ◌&&◌, List, [], ◌∷◌, map}
use Rattle.std.proofs.Common.{length, get_or, slice_get, cond, nat_eq, nat_le, Some, None, refl, ◌∙◌, arith}
use Rattle.std.proofs.lemmas.Bool.Decides.{nat_tests}
use Rattle.ua_texts.specs.Names.{name_in, rises_from}
use Rattle.ua_texts.specs.StatusCodes.{status_codes}

abbrev pub Rows : Type 0
Rows = List (ℕ × List ℕ)

abbrev pub codes_in : Rows → List ℕ
codes_in rows = map (λ row. row.0) rows

both-first : (a b : Bool) → (a && b) ≡ true → a ≡ true
both-first true b h = refl
both-first false b h = h

both-second : (a b : Bool) → (a && b) ≡ true → b ≡ true
both-second true b h = h
both-second false b h = absurd (grind (arith, h))

-- no code is below the first number
not_below : (least : ℕ) (rows : Rows) → rises_from least rows ≡ true → (k : ℕ) → k < length (codes_in rows) → least ≤ get_or (codes_in rows) k 0
unfolding rises_from
not_below least [] rise k lt = absurd (omega arith)
not_below least (row ∷ rows) rise zero lt = grind (arith, nat_tests, both-first (nat_le least row.0) (rises_from (suc row.0) rows) rise)
not_below least (row ∷ rows) rise (suc k) lt =
    let first : nat_le least row.0 ≡ true = both-first (nat_le least row.0) (rises_from (suc row.0) rows) rise in
    let next : suc row.0 ≤ get_or (codes_in rows) k 0 = not_below (suc row.0) rows (both-second (nat_le least row.0) (rises_from (suc row.0) rows) rise) k
    (omega arith) in
    grind (arith, nat_tests)

pub rising : (least : ℕ) (rows : Rows) → rises_from least rows ≡ true → (i j : ℕ) → i ≤ j → j < length (codes_in rows)
    → get_or (codes_in rows) i 0 ≤ get_or (codes_in rows) j 0
unfolding rises_from
rising least [] rise i j le lt = absurd (omega arith)
rising least (row ∷ rows) rise zero zero le lt = omega arith
rising least (row ∷ rows) rise zero (suc j) le lt =
    let next : suc row.0 ≤ get_or (codes_in rows) j 0 = not_below (suc row.0) rows (both-second (nat_le least row.0) (rises_from (suc row.0) rows) rise) j
    (omega arith) in
    omega (arith, next)
rising least (row ∷ rows) rise (suc i) zero le lt = absurd (omega arith)
rising least (row ∷ rows) rise (suc i) (suc j) le lt = rising (suc row.0) rows (both-second (nat_le least row.0) (rises_from (suc row.0) rows) rise) i j
    (omega arith) (omega arith)

cond-true : {A : Type 0} (b : Bool) (x y : A) → b ≡ true → cond b x y ≡ x
cond-true true x y h = refl
cond-true false x y h = absurd (grind (arith, h))

cond-false : {A : Type 0} (b : Bool) (x y : A) → b ≡ false → cond b x y ≡ y
cond-false false x y h = refl
cond-false true x y h = absurd (grind (arith, h))

-- the name that stands at a place is that of the code there
pub named_at : (least : ℕ) (rows : Rows) (code : ℕ) → rises_from least rows ≡ true → (i : ℕ) → i < length (codes_in rows) → get_or (codes_in rows) i 0 ≡ code
    → name_in rows code ≡ slice_get (map (λ row. row.1) rows) i
unfolding name_in rises_from
named_at least [] code rise i lt same = absurd (omega arith)
named_at least (row ∷ rows) code rise zero lt same = cond-true (nat_eq row.0 code) (Some row.1) (name_in rows code) (grind (arith, nat_tests, same))
named_at least (row ∷ rows) code rise (suc i) lt same =
    let rest = both-second (nat_le least row.0) (rises_from (suc row.0) rows) rise in
    let next : suc row.0 ≤ get_or (codes_in rows) i 0 = not_below (suc row.0) rows rest i (omega arith) in
    let other : nat_eq row.0 code ≡ false = grind (arith, nat_tests, next, same) in
    cond-false (nat_eq row.0 code) (Some row.1) (name_in rows code) other ∙ named_at (suc row.0) rows code rest i (omega arith) same

-- a code that is at no place has no name
pub unnamed : (rows : Rows) (code : ℕ) → ((k : ℕ) → k < length (codes_in rows) → nat_eq (get_or (codes_in rows) k 0) code ≡ false) → name_in rows code ≡ None
unfolding name_in
unnamed [] code other = refl
unnamed (row ∷ rows) code other = cond-false (nat_eq row.0 code) (Some row.1) (name_in rows code) (other 0 (omega arith))
    ∙ unnamed rows code (λ k lt. other (suc k) (omega arith))

-- between lesser and greater codes there is none
pub unnamed_between : (rows : Rows) (code i : ℕ) → ((k : ℕ) → k < i → get_or (codes_in rows) k 0 < code)
    → ((k : ℕ) → i ≤ k → k < length (codes_in rows) → code < get_or (codes_in rows) k 0) → name_in rows code ≡ None
unnamed_between rows code i less more = unnamed rows code (λ k lt. grind (arith, nat_tests, less k, more k))

-- by computation: the table is in the order of its codes, and each code stands in one row
pub table_rises : rises_from 0 status_codes ≡ true
unfolding rises_from status_codes
table_rises = refl
