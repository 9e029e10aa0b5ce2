use Rattle.std.proofs.Common.{arith}
use Rattle.ua_wire.proofs.CountedRead.{octets_at-short}
use Rattle.ua_wire.proofs.counted.take_octets.Goals as goal

pub returns-then-left-count-clause-exact : goal.returns-then-left-count-clause-exact
returns-then-left-count-clause-exact g c = octets_at-short _ _ (omega arith)
