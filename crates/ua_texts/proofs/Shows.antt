-- How characters are shown, octet by octet.
use Rattle.std.proofs.Common.{◌≡◌, ◌≢◌, ℕ, ◌+◌, ◌/◌, ◌%◌, ◌<◌, ◌≤◌, List, [], ◌∷◌, ◌++◌, true, false}
use Rattle.std.proofs.Common.{length, get_or, encode_utf8, inl, inr, refl, sym, ap, ◌∙◌, arith, append-nil}
use Rattle.std.proofs.lemmas.Bool.{cases_order}
use Rattle.std.proofs.lemmas.Bool.Decides.{nat_tests}
use Rattle.std.proofs.lemmas.Grind.{common_steps, flat_map-append}
use Rattle.std.proofs.lemmas.Str.{encode_ascii, inside_one}
use Rattle.std.specs.Char.{is_ascii_control}
use Rattle.std.specs.Fmt.{digit_glyph}
use Rattle.ua_texts.specs.Shown.{shown_octet, shown}

pub shown-append : (a b : List ℕ) → shown (a ++ b) ≡ shown a ++ shown b
unfolding shown
shown-append a b = flat_map-append shown_octet a b

shown-one : (b : ℕ) → shown (b ∷ []) ≡ shown_octet b
unfolding shown
shown-one b = append-nil (shown_octet b)

pub shown-nil : shown [] ≡ []
unfolding shown
shown-nil = refl

octet-control : (c : ℕ) → is_ascii_control c ≡ true → shown_octet c ≡ 92 ∷ 120 ∷ digit_glyph false (c / 16) ∷ digit_glyph false (c % 16) ∷ []
octet-control c control = grind (arith, nat_tests)

octet-plain : (c : ℕ) → c ≢ 92 → is_ascii_control c ≡ false → shown_octet c ≡ c ∷ []
octet-plain c slash control = grind (arith, nat_tests)

pub control-small : (c : ℕ) → is_ascii_control c ≡ true → c < 128
control-small c control = grind (arith, nat_tests)

high-plain : (c : ℕ) → 128 ≤ c → is_ascii_control c ≡ false
high-plain c high = grind (arith, nat_tests)

-- a backslash is doubled
pub shown-backslash : shown (encode_utf8 92) ≡ 92 ∷ 92 ∷ []
shown-backslash = ap shown (encode_ascii 92 (omega arith)) ∙ shown-one 92

-- a control character is shown by its two digits
pub shown-control : (c : ℕ) → is_ascii_control c ≡ true → shown (encode_utf8 c) ≡ 92 ∷ 120 ∷ digit_glyph false (c / 16) ∷ digit_glyph false (c % 16) ∷ []
shown-control c control = ap shown (encode_ascii c (control-small c control)) ∙ shown-one c ∙ octet-control c control

shown-high : (bs : List ℕ) → ((k : ℕ) → k < length bs → 128 ≤ get_or bs k 0) → shown bs ≡ bs
unfolding shown
shown-high [] h = refl
shown-high (b ∷ bs) h =
    let head : 128 ≤ b = grind (arith, common_steps, h 0) in
    let tail : (k : ℕ) → k < length bs → 128 ≤ get_or bs k 0 = λ k lt. grind (arith, common_steps, h (k + 1)) in
    ap (λ t. t ++ shown bs) (octet-plain b (λ e. omega arith) (high-plain b head)) ∙ ap (λ r. b ∷ r) (shown-high bs tail)

wide_octets : (c k : ℕ) → 128 ≤ c → k < length (encode_utf8 c) → 128 ≤ get_or (encode_utf8 c) k 0
wide_octets c k h lt = grind (arith, inside_one c [] (encode_utf8 c) k (sym (append-nil (encode_utf8 c))) lt)

shown-ascii : (c : ℕ) → c < 128 → c ≢ 92 → is_ascii_control c ≡ false → shown (encode_utf8 c) ≡ encode_utf8 c
shown-ascii c low slash control = ap shown (encode_ascii c low) ∙ shown-one c ∙ octet-plain c slash control ∙ sym (encode_ascii c low)

-- any other character is shown as it is
pub shown-plain : (c : ℕ) → c ≢ 92 → is_ascii_control c ≡ false → shown (encode_utf8 c) ≡ encode_utf8 c
shown-plain c slash control = elim (cases_order c 128) [
  | inl e ↦ shown-high (encode_utf8 c) (λ k lt. wide_octets c k (omega arith) lt)
  | inr other ↦ elim other [
    | inl low ↦ shown-ascii c low slash control
    | inr wide ↦ shown-high (encode_utf8 c) (λ k lt. wide_octets c k (omega arith) lt)
  ]
]
