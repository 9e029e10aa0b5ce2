-- Floating-point numbers as decimals (ISO/IEC/IEEE 60559; OPC 10000-6, 5.2.2.3).
use Rattle.std.specs.Prelude.{◌≡◌, ◌⊎◌, ℕ, Bool, cond, not, ◌||◌, nat_eq, List, ◌++◌, Option, Some, None}
use Rattle.std.specs.Prelude.{codes, is_nan, to_bits, from_bits, option_and_then, option_map, bytes_eq}
use Rattle.std.specs.Float.{Float, Format, binary32, binary64, nan, inf, fin}
use Rattle.std.specs.Float.Ieee.{nan_bits}
use Rattle.std.specs.Fmt.{sign_text}
use Rattle.fast_float.specs.Parse.{parse_float}
use Rattle.ryu.specs.Plain.{IsLaidOutNumber}
use Rattle.ua_wire.specs.declared.double_bits.DoubleBits.{DoubleBits}
use Rattle.ua_wire.specs.declared.float_bits.FloatBits.{FloatBits}

-- the bit patterns that the standard writes for NaN
abbrev pub float_nan : ℕ
float_nan = 0xffc0_0000

abbrev pub double_nan : ℕ
double_nan = 0xfff8_0000_0000_0000

-- ---- what a text denotes

-- the bit pattern of a float, if it is a number
abbrev pub number_bits : Format → Float → Option ℕ
number_bits f x = cond (is_nan x) None (Some (to_bits f x))

-- the bit pattern of the number nearest to what the text denotes, of two as near the one with an
-- even bit pattern: `parse_float` of the crate `fast_float`, which rounds the exact quotient of
-- digits and powers of ten. It takes `21.5`, `+21.5`, `.5`, `5.`, `1e-05`, `Infinity`, `-inf`.
abbrev pub nearest_bits : Format → List ℕ → Option ℕ
nearest_bits f text = option_and_then (number_bits f) (parse_float f text)

-- the bit pattern that a text denotes: that of NaN for `NaN`, that of the nearest number for any
-- other text
unfoldable pub bits_denoted : Format → ℕ → List ℕ → Option ℕ
bits_denoted f quiet text = cond (bytes_eq text (codes "NaN")) (Some quiet) (nearest_bits f text)

abbrev pub float_denoted : List ℕ → Option FloatBits
float_denoted text = option_map (λ n. record { bits = n }) (bits_denoted binary32 float_nan text)

abbrev pub double_denoted : List ℕ → Option DoubleBits
double_denoted text = option_map (λ n. record { bits = n }) (bits_denoted binary64 double_nan text)

-- ---- the text of a pattern

-- the pattern has a text: a number's, or the one for what is no number
abbrev pub has_text : Format → ℕ → ℕ → Bool
has_text f quiet bits = nat_eq bits quiet || not (nan_bits f bits)

abbrev pub has_float_text : ℕ → Bool
has_float_text bits = has_text binary32 float_nan bits

abbrev pub has_double_text : ℕ → Bool
has_double_text bits = has_text binary64 double_nan bits

-- the text of a float that is a number: a decimal that is nearest to just this number, as the crate
-- `ryu` lays it out, with an exponent exactly if more than this many digits would precede the
-- point, or more than this many zeros follow it; `Infinity` with its sign
abbrev pub IsNumberText : Format → ℕ → ℕ → Float → List ℕ → Type 0
IsNumberText f digits most nan text = ⊥
IsNumberText f digits most (inf negative) text = text ≡ sign_text negative ++ codes "Infinity"
IsNumberText f digits most (fin negative m e) text = IsLaidOutNumber digits most text × (parse_float f text ≡ Some (fin negative m e))

-- the text of a pattern: `NaN`, or that of the number
abbrev pub IsBitsText : Format → ℕ → ℕ → ℕ → ℕ → List ℕ → Type 0
IsBitsText f quiet digits most bits text = ((bits ≡ quiet) × (text ≡ codes "NaN")) ⊎ IsNumberText f digits most (from_bits f bits) text

abbrev pub IsFloatText : ℕ → List ℕ → Type 0
IsFloatText bits text = IsBitsText binary32 float_nan 13 5 bits text

abbrev pub IsDoubleText : ℕ → List ℕ → Type 0
IsDoubleText bits text = IsBitsText binary64 double_nan 16 4 bits text
