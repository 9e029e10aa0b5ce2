-- What calls of a client read from a transport and write to it.
use Rattle.std.specs.Prelude.{◌≡◌, ◌<◌, ◌++◌, ℕ, List, [], length, Option, Some, None, Result, Ok, Err}
use Rattle.ua_wire.specs.Format.{Extends}
use Rattle.ua_channel.specs.Line.{Traffic}

-- these bytes were read and these were written, between two times
pub record Carries (got sent : List ℕ) (before after : Traffic) : Type 0 where
  -- whatever more is written
  pub coming : (more : List ℕ) → before.coming (sent ++ more) ≡ got ++ after.coming more
  pub written : after.written ≡ before.written ++ sent

-- a proper prefix of these bytes
abbrev pub IsPart : List ℕ → List ℕ → Type 0
IsPart sent octets = Extends sent octets × (length sent < length octets)

-- nothing was read, and a proper prefix of these bytes was written
pub record WritesFront (octets : List ℕ) (before after : Traffic) : Type 0 where
  pub sent : List ℕ
  pub front : Extends sent octets
  pub fewer : length sent < length octets
  pub carried : Carries [] sent before after

-- what a write of these bytes did: it wrote them all, or failed after a prefix of them
abbrev pub Writes : {A E : Type 0} → Result A E → List ℕ → Traffic → Traffic → Type 0
Writes (Ok found) octets before after = Carries [] octets before after
Writes (Err fault) octets before after = WritesFront octets before after

-- a transport that tells its bytes has none to come before more is written
abbrev pub IsAtEnd : Option Traffic → Type 0
IsAtEnd None = Unit {0}
IsAtEnd (Some traffic) = traffic.coming [] ≡ []
