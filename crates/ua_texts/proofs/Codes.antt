-- What numbers print as in hexadecimal digits.
use Rattle.std.proofs.Common.{◌≡◌, ℕ, ◌^◌, ◌-◌, ◌/◌, ◌%◌, ◌<◌, Bool, false, Some, [], ◌∷◌, length, ap, arith, append-nil}
use Rattle.std.proofs.lemmas.Fmt.{hex_byte}
use Rattle.std.specs.Fmt.{char_count, digit_glyph, digits, digits_output, padded_integral, format_spec, styled_digits_output}
use Rattle.ua_texts.specs.Shown.{padded_digits}

padded_digits-is : (upper : Bool) (places n : ℕ) → padded_integral (format_spec 32 0 4 places (2 ^ 64 - 1)) false [] (digits 16 upper n)
    ≡ padded_digits upper places n
unfolding padded_digits padded_integral char_count
padded_digits-is upper places n =
    let short : places - length (digits 16 upper n) - 0 - 0 ≡ places - length (digits 16 upper n) = omega arith in
    rw (short, append-nil (digits 16 upper n))

-- so many digits, with zeros in front
pub padded_output : (upper : Bool) (places : ℕ) (d : _) (s : _) (n : ℕ) → digits_output d ≡ Some (digits 16 upper n)
    → s ≡ format_spec 32 0 4 places (2 ^ 64 - 1) → styled_digits_output d s ≡ Some (padded_digits upper places n)
padded_output upper places d s n e f = rw (f, e) (ap Some (padded_digits-is upper places n))

-- two lower case digits
pub octet_output : (d : _) (s : _) (octet : ℕ) → digits_output d ≡ Some (digits 16 false octet) → s ≡ format_spec 32 0 4 2 (2 ^ 64 - 1) → octet < 256
    → styled_digits_output d s ≡ Some (digit_glyph false (octet / 16) ∷ digit_glyph false (octet % 16) ∷ [])
octet_output d s octet e f small = rw (f, e) (ap Some (hex_byte false octet small))
