-- The transport contract: bytes are read from it and written to it, in fragments of the transport's
-- own choice.
use Rattle.std.specs.Prelude.{◌≡◌, ◌++◌, ◌+◌, ◌<◌, ℕ, List, [], cond, nat_eq, length, take, Option, Some, None, Result, Ok, Err}
use Rattle.ua_channel.specs.declared.line.LineFault.{LineFault}

-- the bytes of a transport that tells them: those still to be read once these further bytes are
-- written to it, whether they answer what is written or not; and those written so far
pub record Traffic : Type 0 where
  pub coming : List ℕ → List ℕ
  pub written : List ℕ

-- ---- failures

-- the greatest count of failures, that of 64 bits
abbrev pub most_failures : ℕ
most_failures = 0xFFFF_FFFF_FFFF_FFFF

-- the count after one more failure: after the greatest comes 0
abbrev pub one_more : ℕ → ℕ
one_more n = cond (nat_eq n most_failures) 0 (n + 1)

-- the count after a call: an Err is one failure more
abbrev pub failures_after : {A E : Type 0} → ℕ → Result A E → ℕ
failures_after before (Ok found) = before
failures_after before (Err fault) = one_more before

-- ---- bytes

-- what a read did: it returned the next bytes, whatever more is written, and none into a buffer
-- that is not empty only if none are to come before more is written; a failure moved nothing
abbrev pub HandsOut : Result ℕ LineFault → List ℕ → Traffic → Traffic → Type 0
HandsOut (Ok n) buffer before after = ((more : List ℕ) → before.coming more ≡ take n buffer ++ after.coming more) × (after.written ≡ before.written)
    × (n ≡ 0 → 0 < length buffer → before.coming [] ≡ [])
HandsOut (Err fault) buffer before after = after ≡ before

-- what a write did: it took the first of the bytes offered, and what is still to be read is what
-- was to be read once they are written; a failure moved nothing
abbrev pub WriteTakes : Result ℕ LineFault → List ℕ → Traffic → Traffic → Type 0
WriteTakes (Ok n) octets before after = (after.written ≡ before.written ++ take n octets)
    × ((more : List ℕ) → after.coming more ≡ before.coming (take n octets ++ more))
WriteTakes (Err fault) octets before after = after ≡ before

-- a transport that told its bytes goes on telling them, and this is what became of them; nothing
-- holds of a transport that does not
abbrev pub IfTrafficKnown : (Traffic → Traffic → Type 0) → Option Traffic → Option Traffic → Type 0
IfTrafficKnown P (Some before) (Some after) = P before after
IfTrafficKnown P (Some before) None = ⊥
IfTrafficKnown P None after = after ≡ None

-- a transport moved bytes: those read were to come before those that still are, once those written
-- are, and these follow those written before
abbrev pub MovesTraffic : List ℕ → List ℕ → Traffic → Traffic → Type 0
MovesTraffic read written before after = ((more : List ℕ) → before.coming (written ++ more) ≡ read ++ after.coming more)
    × (after.written ≡ before.written ++ written)

-- ---- bytes that are to be written whole

-- a write stopped before the last of the bytes
abbrev pub StopsWithin : List ℕ → Result (Unit {0}) ℕ → Type 0
StopsWithin octets (Ok u) = Unit {0}
StopsWithin octets (Err n) = n < length octets

-- the bytes were written, all or a prefix of them
abbrev pub Wrote : List ℕ → Result (Unit {0}) ℕ → Traffic → Traffic → Type 0
Wrote octets (Ok u) before after = MovesTraffic [] octets before after
Wrote octets (Err n) before after = MovesTraffic [] (take n octets) before after
