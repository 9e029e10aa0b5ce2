use Rattle.std.proofs.Common.{length}
use Rattle.ua_judge.proofs.Guesses.{GuessedTo}
use Rattle.ua_judge.proofs.guess.guess_marks.Given as goal

abbrev pub invariant-loop-frame : goal.invariant-loop-frame
invariant-loop-frame l = GuessedTo l.up l.requests.items l.down l.rest l.unfinished.items l.sent l.marks.items

abbrev pub decreases-loop-frame : goal.decreases-loop-frame
decreases-loop-frame l = length l.rest
