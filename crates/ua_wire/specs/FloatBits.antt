-- Floats (OPC 10000-6, 5.2.2.3): 1.0 is 00 00 80 3F. Every bit pattern is kept, that of a
-- signalling NaN too.
use Rattle.std.specs.Prelude.{ℕ}
use Rattle.ua_wire.specs.Format.{Flat}
use Rattle.ua_wire.specs.Join.{number, made}
use Rattle.ua_wire.specs.declared.float_bits.FloatBits.{FloatBits}

-- the Float with this bit pattern
abbrev pub float_from_bits : ℕ → FloatBits
float_from_bits n = record { bits = n }

-- the bit pattern of an IEEE 754 number of 32 bits, the least significant byte first
unfoldable pub float_bits : Flat FloatBits
float_bits = made float_from_bits (λ v. v.bits) (number 4)
