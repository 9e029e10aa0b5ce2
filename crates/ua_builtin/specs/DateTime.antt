-- DateTimes (OPC 10000-6, 5.2.2.5): 1601-01-01 00:00:01 UTC, 10,000,000 ticks, is
-- 80 96 98 00 00 00 00 00.
use Rattle.std.specs.Prelude.{ℤ}
use Rattle.std.specs.Int.{w64}
use Rattle.ua_wire.specs.Format.{Flat}
use Rattle.ua_wire.specs.Join.{made}
use Rattle.ua_wire.specs.Signed.{signed}
use Rattle.ua_builtin.specs.declared.date_time.DateTime.{DateTime}

-- the DateTime of this number of ticks, each 100 nanoseconds
abbrev pub of_ticks : ℤ → DateTime
of_ticks n = record { ticks = n }

-- an Int64, in units of 100 nanoseconds since 1601-01-01 00:00 UTC
unfoldable pub date_time : Flat DateTime
date_time = made of_ticks (λ v. v.ticks) (signed w64)
