use Rattle.std.proofs.Common.{length}
use Rattle.ua_judge.proofs.Begins.{SentTo}
use Rattle.ua_judge.proofs.requests.requests_in.Given as goal

abbrev pub invariant-loop-frame : goal.invariant-loop-frame
invariant-loop-frame l = SentTo l.octets l.rest l.requests.items l.begun.items

abbrev pub decreases-loop-frame : goal.decreases-loop-frame
decreases-loop-frame l = length l.rest
