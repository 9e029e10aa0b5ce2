-- The texts of floating-point numbers.
use Rattle.std.proofs.Common.{◌≡◌, ℕ, Bool, true, false, ◌||◌, List, ◌++◌, Some, refl, sym, ◌∙◌, arith, inl, inr, codes}
use Rattle.std.proofs.Common.{IsTrue, IsFalse, is_nan, to_bits, from_bits, ◌<◌, ◌*◌, bytes_eq, nat_eq, true≢false}
use Rattle.std.proofs.lemmas.Bool.{cases_Bool}
use Rattle.std.proofs.lemmas.Bool.Decides.{nat_tests}
use Rattle.std.specs.Cmp.Lexicographic.{bytes_decides}
use Rattle.std.specs.Fmt.{sign_text}
use Rattle.std.specs.Float.{Float, Format, NotNan, nan, inf, fin, float_is_finite}
use Rattle.std.specs.Float.Ieee.{nan_bits, top}
use Rattle.std.proofs.lemmas.Float.Parse.{parse_float_on_literals}
use Rattle.fast_float.specs.Parse.{parse_float}
use Rattle.ryu.specs.Plain.{IsLaidOutNumber, word_of}
use lib.Ieee.Bits.{to_bits-of_bits, nan_bits_is}
use Rattle.ua_plain.specs.Decimal.{IsNumberText, bits_denoted, has_text}
use Rattle.ua_plain.specs.Word.{IsWord}
use Rattle.ua_plain.proofs.Words.{word_of_float}

-- ---- words

parse_inf : (f : Format) (negative : Bool) → parse_float f (sign_text negative ++ codes "inf") ≡ Some (inf negative)
unfolding parse_float_on_literals
parse_inf f true = refl
parse_inf f false = refl

parse_infinity : (f : Format) (negative : Bool) → parse_float f (sign_text negative ++ codes "Infinity") ≡ Some (inf negative)
unfolding parse_float_on_literals
parse_infinity f true = refl
parse_infinity f false = refl

parse_nan : (f : Format) → parse_float f (codes "NaN") ≡ Some nan
unfolding parse_float_on_literals
parse_nan f = refl

-- ---- what the crate `ryu` writes

named : (f : Format) (digits most : ℕ) (x : Float) (negative : Bool) → x ≡ inf negative → IsNumberText f digits most x (sign_text negative ++ codes "Infinity")
named f digits most x negative e = rw e refl

some_same : {x y : Float} → Some x ≡ Some y → x ≡ y
some_same e = cc e

pub number_named : (f : Format) (digits most : ℕ) (x : Float) (text : List ℕ) (negative : Bool) → text ≡ sign_text negative ++ codes "inf"
    → parse_float f text ≡ Some x
    → IsNumberText f digits most x (sign_text negative ++ codes "Infinity")
number_named f digits most x text negative e h =
    let read : parse_float f (sign_text negative ++ codes "inf") ≡ Some x = rw e at h in
    named f digits most x negative (some_same (sym read ∙ parse_inf f negative))

pub number_laid_out : (f : Format) (digits most : ℕ) (x : Float) (text : List ℕ) → NotNan x → (text ≡ codes "inf" → ⊥) → (text ≡ codes "-inf" → ⊥)
    → parse_float f text ≡ Some x → (IsTrue (float_is_finite x) → IsLaidOutNumber digits most text) → (IsFalse (float_is_finite x) → text ≡ word_of x)
    → IsNumberText f digits most x text
unfolding float_is_finite lib.Ieee.is_nan
number_laid_out f digits most nan text number no_inf no_minus h laid word = absurd number
number_laid_out f digits most (inf true) text number no_inf no_minus h laid word = absurd (no_minus (word refl))
number_laid_out f digits most (inf false) text number no_inf no_minus h laid word = absurd (no_inf (word refl))
number_laid_out f digits most (fin s m e) text number no_inf no_minus h laid word = (laid refl, h)

-- ---- reading back

number_read : (f : Format) (digits most : ℕ) (x : Float) (text : List ℕ) → IsNumberText f digits most x text → parse_float f text ≡ Some x
number_read f digits most nan text h = absurd h
number_read f digits most (inf s) text h = rw h (parse_infinity f s)
number_read f digits most (fin s m e) text h = h.1

number_not_nan : (f : Format) (digits most : ℕ) (x : Float) (text : List ℕ) → IsNumberText f digits most x text → is_nan x ≡ false
unfolding lib.Ieee.is_nan
number_not_nan f digits most nan text h = absurd h
number_not_nan f digits most (inf s) text h = refl
number_not_nan f digits most (fin s m e) text h = refl

not_named : (f : Format) (x : Float) (text : List ℕ) → parse_float f text ≡ Some x → is_nan x ≡ false → bytes_eq text (codes "NaN") ≡ false
unfolding lib.Ieee.is_nan
not_named f x text h number =
    elim (cases_Bool (bytes_eq text (codes "NaN"))) [
      | inl e ↦
          let is : text ≡ codes "NaN" = (bytes_decides text (codes "NaN")).0 e in
          let same : x ≡ nan = some_same (sym (rw is at h) ∙ parse_nan f) in
          absurd (true≢false (rw same at number))
      | inr e ↦ e
    ]

pub number_back : (f : Format) (quiet digits most bits : ℕ) (text : List ℕ) → bits < 2 * top f → IsNumberText f digits most (from_bits f bits) text
    → bits_denoted f quiet text ≡ Some bits
unfolding bits_denoted
number_back f quiet digits most bits text small h =
    let read = number_read f digits most (from_bits f bits) text h in
    let number = number_not_nan f digits most (from_bits f bits) text h in
    let other = not_named f (from_bits f bits) text read number in
    let back : to_bits f (from_bits f bits) ≡ bits = to_bits-of_bits f bits small (rw number tt) in
    rw (other, read, number, back) refl

pub nan_back : (f : Format) (quiet : ℕ) → bits_denoted f quiet (codes "NaN") ≡ Some quiet
unfolding bits_denoted
nan_back f quiet = refl

pub number_word : (f : Format) (digits most : ℕ) (x : Float) (text : List ℕ) → IsNumberText f digits most x text → IsWord text
number_word f digits most x text h = word_of_float f text x (number_read f digits most x text h)

-- ---- which patterns have a text

pub has_quiet : (f : Format) (quiet bits : ℕ) → bits ≡ quiet → has_text f quiet bits ≡ true
has_quiet f quiet bits e = let same : nat_eq bits quiet ≡ true = grind (arith, nat_tests) in rw same refl

pub has_number : (f : Format) (quiet bits : ℕ) → is_nan (from_bits f bits) ≡ false → has_text f quiet bits ≡ true
has_number f quiet bits h = let number : nan_bits f bits ≡ false = nan_bits_is f bits ∙ h in rw number (either (nat_eq bits quiet))
  where
    either : (b : Bool) → (b || true) ≡ true
    either true = refl
    either false = refl

pub has_none : (f : Format) (quiet bits : ℕ) → (bits ≡ quiet → ⊥) → is_nan (from_bits f bits) ≡ true → has_text f quiet bits ≡ false
has_none f quiet bits other h =
    let none : nan_bits f bits ≡ true = nan_bits_is f bits ∙ h in
    let apart : nat_eq bits quiet ≡ false = grind (arith, nat_tests) in
    rw (none, apart) refl
