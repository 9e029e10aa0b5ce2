-- Booleans (OPC 10000-6, 5.2.2.1): 00 is false, 05 is true, and true is encoded as 01.
use Rattle.std.specs.Prelude.{ℕ, Bool, true, false, not, nat_eq}
use Rattle.ua_wire.specs.Format.{Flat}
use Rattle.ua_wire.specs.Join.{number, made}

-- the truth value of a byte: 0 is false, any other is true
abbrev pub is_set : ℕ → Bool
is_set n = not (nat_eq n 0)

-- the canonical encoding of a truth value
abbrev pub octet_of : Bool → ℕ
octet_of false = 0
octet_of true = 1

-- one byte: 0 is false, any other true, and true is encoded as 1
unfoldable pub boolean : Flat Bool
boolean = made is_set octet_of (number 1)
