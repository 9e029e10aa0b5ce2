-- What std's `parse` reads, in the words of texts and values.
use Rattle.std.specs.Prelude.{◌≡◌, ◌≢◌, ℕ, ◌+◌, ◌<◌, ◌≤◌, ◌^◌, ◌==◌, Bool, true, false, ◌&&◌, cond, nat_lt, List, [], ◌∷◌}
use Rattle.std.specs.Prelude.{length, drop, slice_index, Option, None, Some, IfSome, Result, Ok, Err, ℤ, pos, codes, ◌++◌}
use Rattle.std.specs.Char.{digit_value}
use Rattle.std.specs.Option.{option_map}
use Rattle.std.specs.Result.{result_ok, OkIff}
use Rattle.std.specs.Str.Parse.{AllDigits, IsNumeral, digits_value, ParsesUnsigned, ParsesSigned, starts_with_minus}
use Rattle.std.proofs.Common.{refl, sym, ◌∙◌, ap, subst, arith, true≢false}
use Rattle.std.proofs.lemmas.Bool.{ltb-true, lt-ltb, eqb-true, eq-eqb}
use Rattle.std.proofs.lemmas.Str.Parse.{without_leading_plus_none, IsNumeralModel, numerals_by_value, tells_digits, parse_signed_minus, parse_signed_plain}
use Rattle.std.proofs.Math.Nat.{pow-le-pow_right}
use Rattle.std.proofs.lemmas.Int.Digits.{digits_value-lt}
use Rattle.ua_nodes.specs.ValueText.{all_digits, is_numeral, number_below, unsigned_denoted, signed_denoted, negative, pattern_denoted}
use Rattle.ua_wire.proofs.Readers.{both_true}
use Rattle.ua_nodes.proofs.Fits.{both_are}
use mir.Syntax.{Width}
use mir.Val.{hbits}

pub all_digits_true : (radix : ℕ) (text : List ℕ) → AllDigits radix text → all_digits radix text ≡ true
all_digits_true radix [] h = refl
all_digits_true radix (c ∷ cs) h = ap (λ (t : Bool). t && all_digits radix cs) (lt-ltb (digit_value c) radix h.0) ∙ all_digits_true radix cs h.1

pub all_digits_from : (radix : ℕ) (text : List ℕ) → all_digits radix text ≡ true → AllDigits radix text
all_digits_from radix [] h = tt
all_digits_from radix (c ∷ cs) h =
    let w = both_true (nat_lt (digit_value c) radix) (all_digits radix cs) h in
    (ltb-true (digit_value c) radix w.0, all_digits_from radix cs w.1)

-- the test of a numeral below the bound
pub is_number : (radix bound : ℕ) (text : List ℕ) → IsNumeral radix text → digits_value radix text < bound
    → (is_numeral radix text && nat_lt (digits_value radix text) bound) ≡ true
is_number radix bound text h small =
    both_are (is_numeral radix text) (nat_lt (digits_value radix text) bound)
    (both_are (nat_lt 0 (length text)) (all_digits radix text) (lt-ltb 0 (length text) h.0) (all_digits_true radix text h.1))
    (lt-ltb (digits_value radix text) bound small)

pub number_is : (radix bound : ℕ) (text : List ℕ) → (is_numeral radix text && nat_lt (digits_value radix text) bound) ≡ true
    → IsNumeral radix text × (digits_value radix text < bound)
number_is radix bound text h =
    let w = both_true (is_numeral radix text) (nat_lt (digits_value radix text) bound) h in
    let v = both_true (nat_lt 0 (length text)) (all_digits radix text) w.0 in
    ((ltb-true 0 (length text) v.0, all_digits_from radix text v.1), ltb-true (digits_value radix text) bound w.1)

none_where : {A : Type 0} (test : Bool) (x : A) → (test ≡ true → ⊥) → None ≡ cond test (Some x) None
none_where true x h = absurd (h refl)
none_where false x h = refl

-- what is a number just where the text is a numeral below the bound
pub number_ok : {E : Type 0} (radix bound : ℕ) (text : List ℕ) (r : Result ℕ E)
    → OkIff r (IsNumeral radix text × (digits_value radix text < bound)) (digits_value radix text) → result_ok r ≡ number_below radix bound text
number_ok radix bound text (Ok n) h = ap Some h.1
    ∙ sym (ap (λ (t : Bool). cond t (Some (digits_value radix text)) None) (is_number radix bound text h.0.0 h.0.1))
number_ok radix bound text (Err e) h = none_where (is_numeral radix text && nat_lt (digits_value radix text) bound) (digits_value radix text)
    (λ t. h (number_is radix bound text t))

pub unsigned_radix : {E : Type 0} (radix bits : ℕ) (text : List ℕ) (r : Result ℕ E) → ParsesUnsigned bits radix text r → slice_index text 0 ≢ 43
    → result_ok r ≡ number_below radix (2 ^ bits) text
unsigned_radix {E = E} radix bits text r h ne =
    let P : List ℕ → Type 0 = λ t. OkIff r (IsNumeral radix t × (digits_value radix t < 2 ^ bits)) (digits_value radix t) in
    number_ok radix (2 ^ bits) text r (subst P (without_leading_plus_none text ne) h)

pub unsigned_exact : {E : Type 0} (bits : ℕ) (text : List ℕ) (r : Result ℕ E) → ParsesUnsigned bits 10 text r → slice_index text 0 ≢ 43
    → result_ok r ≡ unsigned_denoted bits text
unsigned_exact bits text r h ne = unsigned_radix 10 bits text r h ne

no_digit : (radix c : ℕ) → radix ≤ 36 → c ≡ 43 → digit_value c < radix → ⊥
no_digit radix c small e h =
    let P : ℕ → Type 0 = λ t. digit_value t < radix in
    let below : 36 < radix = subst P e h in
    omega (arith, below, small)

no_numeral : (radix : ℕ) (text : List ℕ) → radix ≤ 36 → slice_index text 0 ≡ 43 → IsNumeral radix text → ⊥
no_numeral radix [] small e h = omega (arith, e)
no_numeral radix (c ∷ cs) small e h = no_digit radix c small e h.1.0

pub number_none : (radix bound : ℕ) (text : List ℕ) → (IsNumeral radix text → ⊥) → number_below radix bound text ≡ None
number_none radix bound text h =
    sym (none_where (is_numeral radix text && nat_lt (digits_value radix text) bound) (digits_value radix text) (λ t. h (number_is radix bound text t).0))

pub number_plus : (radix bound : ℕ) (text : List ℕ) → radix ≤ 36 → slice_index text 0 ≡ 43 → number_below radix bound text ≡ None
number_plus radix bound text small e = number_none radix bound text (no_numeral radix text small e)

pub unsigned_plus : (bits : ℕ) (text : List ℕ) → slice_index text 0 ≡ 43 → unsigned_denoted bits text ≡ None
unsigned_plus bits text e = number_plus 10 (2 ^ bits) text (omega arith) e

-- ---- signed numbers

pub minus_is : (text : List ℕ) → starts_with_minus text ≡ true → slice_index text 0 ≡ 45
minus_is text h = eqb-true (slice_index text 0) 45 h

none_of : {A B : Type 0} (f : A → B) (o : Option A) → o ≡ None → option_map f o ≡ None
none_of f o e = ap (option_map f) e

pub signed_plus : (bits : ℕ) (text : List ℕ) → slice_index text 0 ≡ 43 → signed_denoted bits text ≡ None
signed_plus bits text e =
    let plain : starts_with_minus text ≡ false = ap (λ (t : ℕ). t == 45) e in
    ap (λ (t : Bool). cond t (option_map negative (number_below 10 (2 ^ bits + 1) (drop 1 text))) (option_map pos (number_below 10 (2 ^ bits) text))) plain
    ∙ none_of pos (number_below 10 (2 ^ bits) text) (number_plus 10 (2 ^ bits) text (omega arith) e)

-- decimal numerals in std's own words: each octet is a digit, and the number is the digits' value
abbrev decimal_digits : IsNumeralModel (AllDigits 10) (digits_value 10)
decimal_digits = numerals_by_value (AllDigits 10) tells_digits

map_where : {A B : Type 0} (f : A → B) (test : Bool) (x : A) → (test ≡ true → ⊥) → None ≡ option_map f (cond test (Some x) None)
map_where f true x h = absurd (h refl)
map_where f false x h = refl

-- what is an image of a number just where the text is a numeral below the bound
pub image_ok : {E : Type 0} (f : ℕ → ℤ) (bound : ℕ) (text : List ℕ) (r : Result ℤ E)
    → OkIff r (AllDigits 10 text × (0 < length text) × (digits_value 10 text < bound)) (f (digits_value 10 text))
    → result_ok r ≡ option_map f (number_below 10 bound text)
image_ok f bound text (Ok z) h =
    ap Some h.1 ∙ sym (ap (λ (t : Bool). option_map f (cond t (Some (digits_value 10 text)) None)) (is_number 10 bound text (h.0.1, h.0.0) h.0.2))
image_ok f bound text (Err e) h =
    map_where f (is_numeral 10 text && nat_lt (digits_value 10 text) bound) (digits_value 10 text)
    (λ t. let n = number_is 10 bound text t in h (n.0.1, n.0.0, n.1))

at_most : {E : Type 0} (P Q : Type 0) (bound v : ℕ) (z : ℤ) (r : Result ℤ E) → OkIff r (P × Q × (v ≤ bound)) z → OkIff r (P × Q × (v < bound + 1)) z
at_most P Q bound v z (Ok x) h = ((h.0.0, h.0.1, let le = h.0.2 in omega (arith, le)), h.1)
at_most P Q bound v z (Err e) h = λ w. h (w.0, w.1, let lt = w.2 in omega (arith, lt))

minus_case : {E : Type 0} (w : Width) (text : List ℕ) (r : Result ℤ E) → ParsesSigned w 10 text r → slice_index text 0 ≡ 45
    → result_ok r ≡ option_map negative (number_below 10 (2 ^ hbits w + 1) (drop 1 text))
minus_case w text r h e =
    image_ok negative (2 ^ hbits w + 1) (drop 1 text) r
    (at_most (AllDigits 10 (drop 1 text)) (0 < length (drop 1 text)) (2 ^ hbits w) (digits_value 10 (drop 1 text)) (negative (digits_value 10 (drop 1 text))) r
    (parse_signed_minus decimal_digits w text r h e))

pub signed_cases : {E : Type 0} (w : Width) (text : List ℕ) (r : Result ℤ E) (minus : Bool) → starts_with_minus text ≡ minus → ParsesSigned w 10 text r
    → slice_index text 0 ≢ 43
    → result_ok r ≡ cond minus (option_map negative (number_below 10 (2 ^ hbits w + 1) (drop 1 text))) (option_map pos (number_below 10 (2 ^ hbits w) text))
signed_cases w text r true e h ne = minus_case w text r h (minus_is text e)
signed_cases w text r false e h ne =
    image_ok pos (2 ^ hbits w) text r (parse_signed_plain decimal_digits w text r h ne (λ m. true≢false (sym (eq-eqb (slice_index text 0) 45 m) ∙ e)))

-- one law for every width
pub signed_exact : {E : Type 0} (w : Width) (text : List ℕ) (r : Result ℤ E) → ParsesSigned w 10 text r → slice_index text 0 ≢ 43
    → result_ok r ≡ signed_denoted (hbits w) text
signed_exact w text r h ne = signed_cases w text r (starts_with_minus text) refl h ne

-- ---- patterns

-- where the digits are few, no further bound is needed
fits_length : (radix : ℕ) (text : List ℕ) (bound : ℕ) → (AllDigits radix text → digits_value radix text < bound) → (test : Bool) → is_numeral radix text ≡ test
    → number_below radix bound text ≡ cond test (Some (digits_value radix text)) None
fits_length radix text bound small true e =
    let digits : AllDigits radix text = all_digits_from radix text (both_true (nat_lt 0 (length text)) (all_digits radix text) e).1 in
    ap (λ (t : Bool). cond t (Some (digits_value radix text)) None)
    (both_are (is_numeral radix text) (nat_lt (digits_value radix text) bound) e (lt-ltb (digits_value radix text) bound (small digits)))
fits_length radix text bound small false e =
    ap (λ (t : Bool). cond (t && nat_lt (digits_value radix text) bound) (Some (digits_value radix text)) None) e

same_bound : (radix : ℕ) (text : List ℕ) (a b : ℕ) → (AllDigits radix text → digits_value radix text < a) → (AllDigits radix text → digits_value radix text < b)
    → number_below radix a text ≡ number_below radix b text
same_bound radix text a b p q = fits_length radix text a p (is_numeral radix text) refl ∙ sym (fits_length radix text b q (is_numeral radix text) refl)

hex_small : (text : List ℕ) (digits : ℕ) → length text ≡ digits → AllDigits 16 text → digits_value 16 text < 16 ^ digits
hex_small text digits e h = let P : ℕ → Type 0 = λ t. digits_value 16 text < 16 ^ t in subst P e (digits_value-lt 16 text h)

hex_wide : (text : List ℕ) (digits : ℕ) → length text ≡ digits → digits ≤ 16 → AllDigits 16 text → digits_value 16 text < 2 ^ 64
hex_wide text digits e few h =
    let small = hex_small text digits e h in
    let most : 16 ^ digits ≤ 16 ^ 16 = pow-le-pow_right (omega arith) few in
    omega (arith, small, most)

-- the digits behind `0x`
pub pattern_ok : (digits : ℕ) (text hex : List ℕ) → text ≡ codes "0x" ++ hex → length hex ≡ digits
    → pattern_denoted digits text ≡ number_below 16 (16 ^ digits) hex
pattern_ok digits text hex e len =
    ap (pattern_denoted digits) e
    ∙ ap (λ (t : Bool). cond t (number_below 16 (16 ^ digits) hex) None) (eq-eqb (length (codes "0x" ++ hex)) (digits + 2) (omega (arith, len)))

pub pattern_parsed : {E : Type 0} (digits : ℕ) (text hex : List ℕ) (r : Result ℕ E) → text ≡ codes "0x" ++ hex → length hex ≡ digits → digits ≤ 16
    → slice_index hex 0 ≢ 43 → ParsesUnsigned 64 16 hex r
    → result_ok r ≡ pattern_denoted digits text
pattern_parsed digits text hex r e len few ne h =
    unsigned_radix 16 64 hex r h ne ∙ same_bound 16 hex (2 ^ 64) (16 ^ digits) (hex_wide hex digits len few) (hex_small hex digits len)
    ∙ sym (pattern_ok digits text hex e len)

-- a pattern is below its bound
below_bound : (radix bound : ℕ) (text : List ℕ) (test : Bool) → (is_numeral radix text && nat_lt (digits_value radix text) bound) ≡ test
    → IfSome (cond test (Some (digits_value radix text)) None) (λ n. n < bound)
below_bound radix bound text true e = (number_is radix bound text e).1
below_bound radix bound text false e = tt

pub pattern_small : (digits : ℕ) (text hex : List ℕ) → text ≡ codes "0x" ++ hex → length hex ≡ digits
    → IfSome (pattern_denoted digits text) (λ n. n < 16 ^ digits)
pattern_small digits text hex e len =
    let P : Option ℕ → Type 0 = λ o. IfSome o (λ n. n < 16 ^ digits) in
    subst P (sym (pattern_ok digits text hex e len)) (below_bound 16 (16 ^ digits) hex (is_numeral 16 hex && nat_lt (digits_value 16 hex) (16 ^ digits)) refl)
