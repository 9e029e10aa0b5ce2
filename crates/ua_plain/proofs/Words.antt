-- The octets of numbers and times.
use Rattle.std.proofs.Common.{◌≡◌, ℕ, true, false, ◌&&◌, ◌||◌, ◌==◌, List, [], ◌∷◌, Some, refl}
use Rattle.std.proofs.Common.{sym, ap, ◌∙◌, arith, is_some, inl, inr, nat_le, true≢false, codes}
use Rattle.std.proofs.lemmas.Bool.{and_parts, and_from, cases_Bool, or_cases}
use Rattle.std.proofs.lemmas.Bool.Decides.{nat_tests}
use Rattle.std.proofs.lemmas.List.Sums.{AllPass-from_list_all}
use Rattle.std.specs.Char.{to_ascii_lowercase}
use Rattle.std.specs.Float.{Float, Format}
use Rattle.std.specs.List.{list_all}
use Rattle.fast_float.specs.Parse.{parse_float, is_float_text, completes_number, float_scan_step, lowercases_to, without_sign, is_infinity_text, is_nan_text}
use Rattle.std.proofs.lemmas.Float.Parse.{is_some-parse_float}
use Rattle.ua_plain.specs.Word.{is_word_octet, IsWord}

-- ---- the digits, points and exponents of a number

lost_step : (c : ℕ) → float_scan_step 7 c ≡ 7
lost_step c = grind (arith, nat_tests)

lost : (cs : List ℕ) → completes_number 7 cs ≡ false
lost [] = refl
lost (c ∷ cs) = rw (lost_step c) (lost cs)

step_lost : (s c : ℕ) → is_word_octet c ≡ false → float_scan_step s c ≡ 7
step_lost s c h = grind (arith, nat_tests)

completes_word : (s : ℕ) (cs : List ℕ) → completes_number s cs ≡ true → list_all is_word_octet cs ≡ true
completes_word s [] h = refl
completes_word s (c ∷ cs) h =
    let rest = completes_word (float_scan_step s c) cs h in
    elim (cases_Bool (is_word_octet c)) [
      | inl e ↦ and_from _ _ e rest
      | inr e ↦ let l : completes_number 7 cs ≡ true = rw (step_lost s c e) at h in absurd (cc (l, lost cs))
    ]

-- ---- words

lower_word : (c w : ℕ) → (to_ascii_lowercase c == w) ≡ true → (nat_le 97 w && nat_le w 122) ≡ true → is_word_octet c ≡ true
lower_word c w h b = grind (arith, nat_tests)

spelled : (cs ws : List ℕ) → lowercases_to cs ws ≡ true → list_all (λ w. nat_le 97 w && nat_le w 122) ws ≡ true → list_all is_word_octet cs ≡ true
spelled [] ws h a = refl
spelled (c ∷ cs) [] h a = absurd (true≢false (sym h))
spelled (c ∷ cs) (w ∷ ws) h a =
    let p = and_parts _ _ h in
    let q = and_parts _ _ a in
    and_from _ _ (lower_word c w p.0 q.0) (spelled cs ws p.1 q.1)

inf_word : (cs : List ℕ) → is_infinity_text cs ≡ true → list_all is_word_octet cs ≡ true
inf_word cs h = elim (or_cases (lowercases_to cs (codes "inf")) (lowercases_to cs (codes "infinity")) h) [
  | inl e ↦ spelled cs (codes "inf") e refl
  | inr e ↦ spelled cs (codes "infinity") e refl
]

nan_word : (cs : List ℕ) → is_nan_text cs ≡ true → list_all is_word_octet cs ≡ true
nan_word cs h = spelled cs (codes "nan") h refl

-- ---- a sign in front

signed : (cs : List ℕ) → list_all is_word_octet (without_sign cs) ≡ true → list_all is_word_octet cs ≡ true
signed [] h = refl
signed (c ∷ cs) h =
    elim (cases_Bool (c == 43 || c == 45)) [
      | inl e ↦ let word : is_word_octet c ≡ true = grind (arith, nat_tests) in and_from _ _ word (rw e at h)
      | inr e ↦ rw e at h
    ]

unsigned : (cs : List ℕ) → (completes_number 0 cs || (is_infinity_text cs || is_nan_text cs)) ≡ true → list_all is_word_octet cs ≡ true
unsigned cs h =
    elim (or_cases (completes_number 0 cs) (is_infinity_text cs || is_nan_text cs) h) [
      | inl e ↦ completes_word 0 cs e
      | inr e ↦ elim (or_cases (is_infinity_text cs) (is_nan_text cs) e) [ inl i ↦ inf_word cs i | inr n ↦ nan_word cs n ]
    ]

pub word_of_float : (f : Format) (text : List ℕ) (x : Float) → parse_float f text ≡ Some x → IsWord text
word_of_float f text x h =
    let is_text : is_float_text text ≡ true = sym (is_some-parse_float f text) ∙ ap is_some h in
    AllPass-from_list_all is_word_octet text (signed text (unsigned (without_sign text) is_text))
