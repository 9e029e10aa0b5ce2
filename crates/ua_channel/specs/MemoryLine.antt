-- An in-memory transport: what each of its calls moves.
use Rattle.std.specs.Prelude.{ℕ, ◌-◌, List, [], ◌∷◌, ◌++◌, Bool, false, cond, nat_eq, min, max, Option, Some, None, Result, Ok, Err}
use Rattle.ua_channel.specs.Line.{Traffic}
use Rattle.ua_channel.specs.declared.line.LineFault.{LineFault}
use Rattle.ua_channel.specs.declared.line.LineFault.TheVariants.{Failed}

-- the calls of one direction: the most that each moves, from the next call on, in turn and again
-- from the first; and which of the calls to come fails, counted from 1
pub record Pace : Type 0 where
  pub limits : List ℕ
  pub fails : Option ℕ

-- the bytes of an in-memory transport: those to be read, whatever is written to it, and those
-- written so far
pub record Stored : Type 0 where
  pub coming : List ℕ
  pub written : List ℕ

-- the same as those of any transport
abbrev pub traffic_of_stored : Stored → Traffic
traffic_of_stored s = record { coming = λ (more : List ℕ). s.coming; written = s.written }

-- an in-memory transport: its bytes, its failures so far, and the paces of its reads and of its
-- writes
pub record Memory : Type 0 where
  pub traffic : Stored
  pub failures : ℕ
  pub reads : Pace
  pub writes : Pace

-- how many of these bytes a call moves: 0 counts as 1, and no limits are no limit
abbrev pub within_limit : List ℕ → ℕ → ℕ
within_limit [] n = n
within_limit (most ∷ limits) n = min n (max most 1)

-- the next call fails
abbrev pub fails_next : Option ℕ → Bool
fails_next None = false
fails_next (Some n) = nat_eq n 1

-- how many of these bytes the next call moves, unless it fails
abbrev pub moves : Pace → ℕ → Result ℕ LineFault
moves pace n = cond (fails_next pace.fails) (Err Failed) (Ok (within_limit pace.limits n))

-- the limits after a call
abbrev pub turned : List ℕ → List ℕ
turned [] = []
turned (most ∷ limits) = limits ++ most ∷ []

-- which of the calls after this one fails: a call fails once
abbrev pub still_fails : Option ℕ → Option ℕ
still_fails None = None
still_fails (Some n) = cond (nat_eq n 1) None (Some (n - 1))

-- the pace after a call
abbrev pub after_call : Pace → Pace
after_call pace = record { limits = turned pace.limits; fails = still_fails pace.fails }
