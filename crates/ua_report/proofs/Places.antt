-- Where a text that comes in pieces stops being hexadecimal.
use Rattle.std.proofs.Common.{◌≡◌, ◌∙◌, ap, sym, ℕ, ◌+◌, ◌-◌, ◌^◌, ◌≤◌, nat_lt, eqb, cond, min, Bool, true}
use Rattle.std.proofs.Common.{false, not, List, ◌++◌, Some, None, length, refl, arith, length-append}
use Rattle.std.specs.List.{position}
use Rattle.std.specs.Option.{unwrap_or}
use Rattle.std.proofs.lemmas.List.Folds.{prefix_len-append}
use Rattle.std.proofs.lemmas.List.Sums.{prefix_len-le-length}
use Rattle.ua_report.specs.Digits.{digits_before, is_no_digit, GoesOnHexadecimal, IsPlaceIn}
use Rattle.ua_report.specs.declared.digit_place.DigitPlace.{DigitPlace}

-- the place of the first that is no digit, or how many there are
or_all : (n most : ℕ) → n ≤ most → (less : Bool) → nat_lt n most ≡ less → unwrap_or (cond less (Some n) None) most ≡ n
or_all n most le true is = refl
or_all n most le false is = grind (arith, le, is)

pub first_or_all : (text : List ℕ) → unwrap_or (position is_no_digit text) (length text) ≡ digits_before text
first_or_all text = or_all (digits_before text) (length text) (prefix_len-le-length (λ octet. not (is_no_digit octet)) text)
    (nat_lt (digits_before text) (length text)) refl

-- two pieces, by how many octets they have and how many stand before the first that is no digit
seam : (a b most more all : ℕ) → a ≤ most → all ≡ cond (eqb a most) (most + b) a → nat_lt all (most + more) ≡ cond (nat_lt a most) true (nat_lt b more)
seam a b most more all le is = grind (arith, le, is)

seam_some : (a b most all : ℕ) → all ≡ cond (eqb a most) (most + b) a → nat_lt a most ≡ true → all ≡ a
seam_some a b most all is some = grind (arith, is, some)

seam_none : (a b most all : ℕ) → a ≤ most → all ≡ cond (eqb a most) (most + b) a → nat_lt a most ≡ false → all ≡ a + b
seam_none a b most all le is none = grind (arith, le, is, none)

by_case : (a b most more all : ℕ) (old new : DigitPlace) → a ≤ most → all ≡ cond (eqb a most) (most + b) a
    → old.found ≡ nat_lt a most → old.count ≡ min a (2 ^ 64 - 1)
    → (old.found ≡ true → new ≡ old) → (old.found ≡ false → (new.found ≡ nat_lt b more) × (new.count ≡ min (old.count + b) (2 ^ 64 - 1)))
    → (had : Bool) → nat_lt a most ≡ had
    → (new.found ≡ nat_lt all (most + more)) × (new.count ≡ min all (2 ^ 64 - 1))
by_case a b most more all old new le is found count kept next true had =
    let same = kept (found ∙ had) in
    let place = seam_some a b most all is had in (
      ap (λ (d : DigitPlace). d.found) same ∙ found ∙ had ∙ sym (seam a b most more all le is ∙ ap (λ (t : Bool). cond t true (nat_lt b more)) had),
      ap (λ (d : DigitPlace). d.count) same ∙ count ∙ ap (λ (n : ℕ). min n (2 ^ 64 - 1)) (sym place),
    )
by_case a b most more all old new le is found count kept next false had =
    let on = next (found ∙ had) in
    let place = seam_none a b most all le is had in (
      on.0 ∙ sym (seam a b most more all le is ∙ ap (λ (t : Bool). cond t true (nat_lt b more)) had),
      on.1 ∙ (let sum : min (old.count + b) (2 ^ 64 - 1) ≡ min all (2 ^ 64 - 1) = grind (arith, count, place) in sum),
    )

pub place_behind : (text piece : List ℕ) (old new : DigitPlace) → (old.found ≡ true → new ≡ old) → (old.found ≡ false → GoesOnHexadecimal old.count piece new)
    → IsPlaceIn text old → IsPlaceIn (text ++ piece) new
place_behind text piece old new kept next at =
    let p : ℕ → Bool = λ (octet : ℕ). not (is_no_digit octet) in
    let by = by_case (digits_before text) (digits_before piece) (length text) (length piece) (digits_before (text ++ piece)) old new
    (prefix_len-le-length p text) (prefix_len-append p text piece) at.0 at.1 kept next (nat_lt (digits_before text) (length text)) refl in
    (by.0 ∙ ap (λ (n : ℕ). nat_lt (digits_before (text ++ piece)) n) (sym (length-append text piece)), by.1)
