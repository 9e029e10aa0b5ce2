-- DateTimes as timestamps of RFC 3339 in UTC (OPC 10000-6, 5.2.2.5).
use Rattle.std.specs.Prelude.{◌≡◌, ◌≢◌, ◌≤ℤ◌, ℕ, ℤ, pos, neg_ℤ, ◌+ℤ◌, ◌-ℤ◌, ◌*ℤ◌, cond, false, List, ◌++◌, Option, Some, None, option_and_then, codes}
use Rattle.std.specs.Ordering.{int_eq}
use Rattle.std.specs.Int.{int_div_euclid, int_rem_euclid}
use Rattle.std.specs.Result.{result_ok}
use Rattle.jiff_core.specs.declared.civil.datetime.DateTime.{DateTime as CivilTime}
use Rattle.jiff_core.specs.DateTime.{civil_nanos}
use Rattle.jiff_fmt.specs.Temporal.{parse_timestamp}
use Rattle.jiff_fmt.specs.Text.{datetime_text}
use Rattle.ua_builtin.specs.declared.date_time.DateTime.{DateTime}

-- the nanoseconds from 1601-01-01T00:00:00Z to 1970-01-01T00:00:00Z
abbrev pub epoch_nanos : ℤ
epoch_nanos = pos 11_644_473_600_000_000_000

-- the nanoseconds since 1970-01-01T00:00:00Z of a DateTime by its ticks, of 100 nanoseconds each
-- since 1601-01-01T00:00:00Z
abbrev pub nanos_of_ticks : ℤ → ℤ
nanos_of_ticks ticks = (ticks *ℤ pos 100) -ℤ epoch_nanos

-- the DateTime of this many nanoseconds since 1601, if they are whole ticks
abbrev pub whole_ticks : ℤ → Option DateTime
whole_ticks n = cond (int_eq (int_rem_euclid n (pos 100)) (pos 0)) (Some (record { ticks = int_div_euclid n (pos 100) })) None

-- the DateTime that a text denotes, by the grammar of the crate `jiff_fmt`: that of RFC 3339, with
-- `Z` or an offset, and of ISO 8601 as Temporal has it
unfoldable pub moment_denoted : List ℕ → Option DateTime
moment_denoted text = option_and_then (λ n. whole_ticks (n +ℤ epoch_nanos)) (result_ok (parse_timestamp text))

-- a DateTime that has a timestamp: not 0, which is no time, from 0000-01-01T00:00:00Z to
-- 9999-12-30T22:00:00.9999999Z, where the calendar of the crate `jiff_core` ends
pub record IsInCalendar (ticks : ℤ) : Type 0 where
  pub some : ticks ≢ pos 0
  pub first : neg_ℤ (pos 505_227_456_000_000_000) ≤ℤ ticks
  pub last : ticks ≤ℤ pos 2_650_466_808_009_999_999

-- the timestamp of a DateTime: what a clock at UTC shows, the date, `T` and the time of day, with
-- the digits of the second up to the last that is not 0, and `Z`
abbrev pub IsMomentText : ℤ → List ℕ → Type 0
IsMomentText ticks text = (clock : CivilTime) × (civil_nanos clock ≡ nanos_of_ticks ticks) × (text ≡ datetime_text false 84 None clock ++ codes "Z")
