use Rattle.std.proofs.Common.{◌≡◌, drop}
use Rattle.ua_judge.specs.Marks.{place_at}
use Rattle.ua_judge.proofs.mark.place_at.Given as goal

abbrev pub invariant-loop-mark : goal.invariant-loop-mark
invariant-loop-mark l = place_at l.marks l.end l.all ≡ place_at (drop l.mark-index l.marks) l.end l.all
