use Rattle.std.proofs.Common.{length}
use Rattle.ua_judge.proofs.EndsRead.{EndsTo}
use Rattle.ua_judge.proofs.start.frame_start.Given as goal

abbrev pub invariant-loop-more : goal.invariant-loop-more
invariant-loop-more l = EndsTo l.octets l.rest l.place l.start

abbrev pub decreases-loop-more : goal.decreases-loop-more
decreases-loop-more l = length l.rest
