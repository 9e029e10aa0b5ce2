use Rattle.std.proofs.Common.{◌≡◌, ◌++◌, map, take}
use Rattle.ua_judge.specs.Guessed.{mark_at}
use Rattle.ua_judge.proofs.guess.push_marks.Given as goal

abbrev pub invariant-loop-request : goal.invariant-loop-request
invariant-loop-request l = l.marks.items ≡ l.fn.marks.items ++ map (mark_at l.down) (take l.request-index l.requests)
