use Rattle.ua_exchange.proofs.Finding.{CountedSoFar}
use Rattle.ua_exchange.proofs.crowded.find_crowded.Given as goal

-- the turns so far were counted
abbrev pub invariant-loop-index : goal.invariant-loop-index
invariant-loop-index l = CountedSoFar l.turns l.index l.last.renewals l.last.calls
