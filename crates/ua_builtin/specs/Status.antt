-- StatusCodes (OPC 10000-6, 5.2.2.11): Bad_DecodingError, 0x80070000, is 00 00 07 80.
use Rattle.std.specs.Prelude.{ℕ, Bool, leb}
use Rattle.ua_wire.specs.Format.{Flat}
use Rattle.ua_wire.specs.Join.{number, made}
use Rattle.ua_builtin.specs.declared.status_code.StatusCode.{StatusCode}

-- the StatusCode of this number
abbrev pub of_code : ℕ → StatusCode
of_code n = record { code = n }

-- the top two bits are the severity: 00 good, 01 uncertain, 10 bad, and 11, which is reserved,
-- counts as bad too (OPC 10000-4, 7.39)
abbrev pub is_bad : StatusCode → Bool
is_bad s = leb 0x8000_0000 s.code

-- a UInt32
unfoldable pub status_code : Flat StatusCode
status_code = made of_code (λ s. s.code) (number 4)
