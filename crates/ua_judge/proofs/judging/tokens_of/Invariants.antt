use Rattle.std.proofs.Common.{◌≡◌, map, take}
use Rattle.ua_judge.specs.Judged.{token_name}
use Rattle.ua_judge.proofs.judging.tokens_of.Given as goal

abbrev pub invariant-loop-opened : goal.invariant-loop-opened
invariant-loop-opened l = l.names.items ≡ map token_name (take l.opened-index l.openings)
