use Rattle.std.specs.Prelude.{string_bytes}
use Rattle.ua_program.proofs.PrintedSides.{TurnsTo}
use Rattle.ua_program.proofs.judge.push_turns.Given as goal

-- the lines of both sides up to the marks so far
abbrev pub invariant-loop-mark : goal.invariant-loop-mark
invariant-loop-mark l = TurnsTo l.asked l.turns.up.items l.turns.down.items l.turns.marks.items l.mark-index l.printers (string_bytes l.fn.out)
    (string_bytes l.out)
