-- Times, as ticks of 100 ns since 1601-01-01 (OPC 10000-6, 5.2.2.5).
use Rattle.std.specs.Prelude.{ℕ, ℤ, pos, ◌≤ℤ◌}

-- 1970-01-01, midnight UTC
abbrev pub ticks_of_1970 : ℕ
ticks_of_1970 = 116444736000000000

-- the time is that one or a later one
abbrev pub IsFrom1970 : ℤ → Type 0
IsFrom1970 moment = pos ticks_of_1970 ≤ℤ moment
