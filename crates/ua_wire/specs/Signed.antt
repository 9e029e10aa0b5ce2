-- Signed whole numbers, in two's complement (OPC 10000-6, 5.2.2.2): -2 as Int16 is FE FF.
use Rattle.std.specs.Prelude.{◌/◌, ◌^◌, ℕ, ℤ, pos, negsuc, Bool, nat_lt}
use Rattle.std.specs.Int.{Width, cast_signed, cast_unsigned}
use mir.Val.{bits, hbits}
use Rattle.ua_wire.specs.Format.{Flat}
use Rattle.ua_wire.specs.Join.{number, image}

-- the number is within the range of the signed type
abbrev pub in_range : Width → ℤ → Bool
in_range w (pos n) = nat_lt n (2 ^ hbits w)
in_range w (negsuc n) = nat_lt n (2 ^ hbits w)

-- how many bytes a number of the signed type takes
abbrev pub width_octets : Width → ℕ
width_octets w = bits w / 8

-- a signed number: the bytes of its two's complement
abbrev pub signed : Width → Flat ℤ
signed w = image (cast_signed w) (cast_unsigned w) (in_range w) (number (width_octets w))
