use Rattle.std.proofs.Common.{length}
use Rattle.ua_program.proofs.Recordings.{RecordedTo}
use Rattle.ua_program.proofs.turns.parse_turns.Given as goal

-- the record of the lines so far
abbrev pub invariant-loop-line : goal.invariant-loop-line
invariant-loop-line l = RecordedTo l.text (length l.yielded) l.turns.up.items l.turns.down.items l.turns.marks.items
