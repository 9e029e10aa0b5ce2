use Rattle.std.proofs.Common.{length, ◌-◌}
use Rattle.ua_server.proofs.Passing.{Passed}
use Rattle.ua_server.proofs.server.next_answered.Given as goal

abbrev pub invariant-loop-taken : goal.invariant-loop-taken
invariant-loop-taken l = Passed l.fn.channel l.channel l.piece l.taken

abbrev pub decreases-loop-taken : goal.decreases-loop-taken
decreases-loop-taken l = length l.piece - l.taken
