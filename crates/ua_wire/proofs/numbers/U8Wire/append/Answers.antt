use Rattle.std.proofs.Common.{◌<◌, arith}
use Rattle.ua_wire.proofs.NumbersRead.{one_octet}
use Rattle.ua_wire.proofs.numbers.U8Wire.append.Goals as goal

pub returns-clause-ok : goal.returns-clause-ok
returns-clause-ok c =
    let fits : c.args.self.now < 256 = omega arith in
    rw (one_octet c.args.self.now fits) c.in_ok-push.ensures.items
