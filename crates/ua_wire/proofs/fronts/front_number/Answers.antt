use Rattle.std.proofs.Common.{arith}
use Rattle.ua_wire.proofs.FrontsRead.{number_front}
use Rattle.ua_wire.proofs.fronts.front_number.Goals as goal

pub returns-clause-value : goal.returns-clause-value
returns-clause-value c =
    rw (c.read_u32.ensures, c.split_at.ensures.front, c.split_at.ensures.back)
    (number_front c.args.octets.now (omega arith) (λ i. omega (arith, c.type_inv.octets i)))
