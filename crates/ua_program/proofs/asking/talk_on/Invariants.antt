use Rattle.std.proofs.Common.{◌≡◌}
use Rattle.ua_program.specs.Talked.{HasTalked}
use Rattle.ua_program.proofs.asking.talk_on.Given as goal

-- the tasks so far were done, and their answers printed in the same style
abbrev pub invariant-loop-turns : goal.invariant-loop-turns
invariant-loop-turns g l =
    HasTalked l.fn.talk.style (g.O.Write.contents l.fn.out) (g.O.Write.contents l.out)
    × (l.talk.style ≡ l.fn.talk.style)
