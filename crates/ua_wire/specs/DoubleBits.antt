-- Doubles (OPC 10000-6, 5.2.2.3): 1.0 is 00 00 00 00 00 00 F0 3F. Every bit pattern is kept.
use Rattle.std.specs.Prelude.{ℕ}
use Rattle.ua_wire.specs.Format.{Flat}
use Rattle.ua_wire.specs.Join.{number, made}
use Rattle.ua_wire.specs.declared.double_bits.DoubleBits.{DoubleBits}

-- the Double with this bit pattern
abbrev pub double_from_bits : ℕ → DoubleBits
double_from_bits n = record { bits = n }

-- the bit pattern of an IEEE 754 number of 64 bits, the least significant byte first
unfoldable pub double_bits : Flat DoubleBits
double_bits = made double_from_bits (λ v. v.bits) (number 8)
