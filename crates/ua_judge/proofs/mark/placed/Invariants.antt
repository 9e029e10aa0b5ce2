use Rattle.std.proofs.Common.{◌≡◌, map, take}
use Rattle.ua_judge.specs.Marks.{placed}
use Rattle.ua_judge.proofs.mark.placed.Given as goal

abbrev pub invariant-loop-request : goal.invariant-loop-request
invariant-loop-request l = l.names.items ≡ map (placed l.marks l.all) (take l.request-index l.requests)
