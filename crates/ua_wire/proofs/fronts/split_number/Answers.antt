use Rattle.std.proofs.Common.{arith}
use Rattle.ua_wire.proofs.NumbersRead.{number_at-short}
use Rattle.ua_wire.proofs.fronts.split_number.Goals as goal

pub returns-then-octets-lt4 : goal.returns-then-octets-lt4
returns-then-octets-lt4 c = number_at-short 4 c.args.octets.now (omega arith)
