-- The texts of moments.
use Rattle.std.proofs.Common.{◌≡◌, ◌≤◌, ◌<◌, ◌+◌, ◌/◌, ◌%◌, ℕ, suc, ℤ, pos, negsuc, ◌+ℤ◌, ◌*ℤ◌, Bool, true, false, ◌==◌, List, []}
use Rattle.std.proofs.Common.{◌∷◌, ◌++◌, length, Some, None, Ok, refl, ap, ◌∙◌, arith, codes, inl, inr, append-nil, append_assoc}
use Rattle.std.proofs.lemmas.Bool.{and_from, cases_Bool}
use Rattle.std.proofs.lemmas.Bool.Decides.{nat_tests}
use Rattle.std.proofs.lemmas.List.Folds.{list_all-append}
use Rattle.std.proofs.lemmas.List.Sums.{AllPass-from_list_all}
use Rattle.std.specs.Char.{is_ascii_digit}
use Rattle.std.specs.Int.{int_div_euclid, int_rem_euclid}
use Rattle.std.specs.List.{list_all, prefix_len}
use Rattle.jiff_core.specs.declared.civil.date.Date.{Date}
use Rattle.jiff_core.specs.declared.civil.time.Time.{Time}
use Rattle.jiff_core.specs.declared.civil.datetime.DateTime.{DateTime as CivilTime}
use Rattle.jiff_core.specs.declared.timestamp.Timestamp.{Timestamp}
use Rattle.jiff_core.specs.Calendar.{IsYear}
use Rattle.jiff_core.proofs.SignedLemmas.{signed_arith}
use Rattle.jiff_core.proofs.CalendarLemmas.{days_in_month_bounds}
use Rattle.jiff_fmt.specs.Temporal.{parse_timestamp}
use Rattle.jiff_fmt.specs.Text.{pad2, pad4, places, significant, fraction_part, year_text, date_text, time_text, datetime_text}
use Rattle.jiff_fmt.specs.Printer.{options, IsTimestampText}
use Rattle.jiff_fmt.specs.declared.temporal.printer.DateTimePrinter.{DateTimePrinter}
use Rattle.jiff_fmt.proofs.TextLemmas.{places-read}
use Rattle.ua_plain.specs.Moment.{IsMomentText, moment_denoted, nanos_of_ticks, epoch_nanos}
use Rattle.ua_plain.specs.Word.{is_word_octet, IsWord}

-- ---- reading back

back_rem : (t : ℤ) → int_rem_euclid (t *ℤ pos 100) (pos 100) ≡ pos 0
back_rem t = omega (arith, signed_arith)

back_div : (t : ℤ) → int_div_euclid (t *ℤ pos 100) (pos 100) ≡ t
back_div t = omega (arith, signed_arith)

back_sum : (t : ℤ) → nanos_of_ticks t +ℤ epoch_nanos ≡ t *ℤ pos 100
back_sum t = omega (arith, signed_arith)

pub moment_back : (ticks nanos : ℤ) (text : List ℕ) → nanos ≡ nanos_of_ticks ticks → parse_timestamp text ≡ Ok nanos
    → moment_denoted text ≡ Some (record { ticks = ticks })
unfolding moment_denoted
moment_back ticks nanos text e h = rw (h, e, back_sum ticks, back_rem ticks, back_div ticks) refl

-- ---- the octets of a time

abbrev all_word : List ℕ → Bool
all_word text = list_all is_word_octet text

both : (a b : List ℕ) → all_word a ≡ true → all_word b ≡ true → all_word (a ++ b) ≡ true
both a b p q = list_all-append is_word_octet a b ∙ and_from _ _ p q

digit_word : (n : ℕ) → n < 10 → is_word_octet (48 + n) ≡ true
digit_word n h = grind (arith, nat_tests)

pad2_word : (n : ℕ) → n < 100 → all_word (pad2 n) ≡ true
pad2_word n h = and_from _ _ (digit_word (n / 10) (omega arith)) (and_from _ _ (digit_word (n % 10) (omega arith)) refl)

pad4_word : (n : ℕ) → n < 10_000 → all_word (pad4 n) ≡ true
pad4_word n h = both (pad2 (n / 100)) (pad2 (n % 100)) (pad2_word (n / 100) (omega arith)) (pad2_word (n % 100) (omega arith))

year_word : (y : ℤ) → IsYear y → all_word (year_text y) ≡ true
year_word (pos n) h = pad4_word n (omega (arith, signed_arith, h.0, h.1))
year_word (negsuc n) h = both (codes "-00") (pad4 (suc n)) refl (pad4_word (suc n) (omega (arith, signed_arith, h.0, h.1)))

date_word : (d : Date) → all_word (date_text d) ≡ true
date_word d =
    let month = pad2_word d.month (omega (arith, d.month_in.1)) in
    let day = pad2_word d.day (omega (arith, d.day_in.1, (days_in_month_bounds d.year d.month).0)) in
    let behind = 45 ∷ pad2 d.month ++ (45 ∷ pad2 d.day) in
    let shape : date_text d ≡ year_text d.year ++ behind = simp append_assoc refl in
    rw shape (both (year_text d.year) behind (year_word d.year d.year_in) (both (pad2 d.month) (45 ∷ pad2 d.day) month day))

digits_word : (cs : List ℕ) → prefix_len is_ascii_digit cs ≡ length cs → all_word cs ≡ true
digits_word [] h = refl
digits_word (c ∷ cs) h =
    elim (cases_Bool (is_ascii_digit c)) [
      | inl e ↦
          let rest : prefix_len is_ascii_digit cs ≡ length cs = omega (arith, rw e at h) in
          let word : is_word_octet c ≡ true = grind (arith, nat_tests) in
          and_from _ _ word (digits_word cs rest)
      | inr e ↦ absurd (omega (arith, rw e at h))
    ]

fraction_word : (n : ℕ) → n < 1_000_000_000 → all_word (fraction_part None n) ≡ true
fraction_word n h =
    let k = significant n in
    let few : k ≤ 9 = elim (cases_Bool (n == 0)) [ inl e ↦ rw e (omega arith) | inr e ↦ rw e (omega arith) ] in
    let facts = places-read k 9 n [] (omega arith) h in
    let digits = digits_word (places k 1_000_000_000 n) (omega (arith, facts.1, rw append-nil at facts.0)) in
    elim (cases_Bool (n == 0)) [ inl e ↦ rw e refl | inr e ↦ rw e (rw e at digits) ]

time_word : (t : Time) → all_word (time_text None t) ≡ true
time_word t =
    let hour = pad2_word t.hour (omega (arith, t.hour_in)) in
    let minute = pad2_word t.minute (omega (arith, t.minute_in)) in
    let second = pad2_word t.second (omega (arith, t.second_in)) in
    let part = fraction_part None t.subsec_nanosecond in
    both (pad2 t.hour) (58 ∷ pad2 t.minute ++ 58 ∷ pad2 t.second ++ part) hour
    (both (pad2 t.minute) (58 ∷ pad2 t.second ++ part) minute (both (pad2 t.second) part second (fraction_word t.subsec_nanosecond t.subsec_in)))

pub moment_word : (clock : CivilTime) (text : List ℕ) → text ≡ datetime_text false 84 None clock ++ codes "Z" → IsWord text
moment_word clock text e =
    let clock_word = both (date_text clock.date) (84 ∷ time_text None clock.time) (date_word clock.date) (time_word clock.time) in
    let whole = both (datetime_text false 84 None clock) (codes "Z") clock_word refl in
    AllPass-from_list_all is_word_octet text (rw e whole)

-- ---- the form of a time

pub moment_form : (p : DateTimePrinter) (t : Timestamp) (ticks : ℤ) (text : List ℕ) → options p ≡ (false, 84, None) → t.nanosecond ≡ nanos_of_ticks ticks
    → IsTimestampText p t text
    → IsMomentText ticks text
moment_form p t ticks text o same h =
    let lower : p.lowercase ≡ false = ap (λ x. x.0) o in
    let separator : p.separator ≡ 84 = ap (λ x. x.1) o in
    let precision : p.precision ≡ None = ap (λ x. x.2) o in
    (h.0, h.1 ∙ same, rw (lower, separator, precision) at h.2)
