use Rattle.std.proofs.Common.{arith}
use Rattle.ua_wire.proofs.FrontsRead.{counted_short, counted_there}
use Rattle.ua_wire.proofs.fronts.split_counted.Goals as goal

pub returns-then-rest-count : goal.returns-then-rest-count
returns-then-rest-count c = counted_short c.args.octets.now c.in_ok-count.rest.now c.in_ok-count.count c.in_ok-count.ensures (omega arith) (omega arith)

pub returns : goal.returns
returns c =
    rw (c.split_at.ensures.front, c.split_at.ensures.back) (counted_there c.args.octets.now c.in_ok-count.rest.now c.in_ok-count.count c.in_ok-count.ensures
    (omega arith) (omega arith))
