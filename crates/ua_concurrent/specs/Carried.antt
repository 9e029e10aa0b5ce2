-- The bytes of a socket.
use Rattle.std.specs.Prelude.{ℕ, List, ◌++◌}

-- what was read from a socket, and what was written to it, so far
pub record Carried : Type 0 where
  pub read : List ℕ
  pub written : List ℕ

-- the same with these read and written in addition
abbrev pub with_more : List ℕ → List ℕ → Carried → Carried
with_more read written c = record { read = c.read ++ read; written = c.written ++ written }

-- the same with this read in addition
abbrev pub with_read : List ℕ → Carried → Carried
with_read more c = record { read = c.read ++ more; written = c.written }

-- the same with this written in addition
abbrev pub with_more_written : List ℕ → Carried → Carried
with_more_written more c = record { read = c.read; written = c.written ++ more }
