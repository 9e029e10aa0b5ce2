use Rattle.std.proofs.Common.{arith}
use Rattle.ua_variant.specs.Data.{byte}
use Rattle.ua_variant.specs.Leaf.{leaf_at}
use Rattle.ua_variant.specs.Least.{least_octets}
use Rattle.ua_variant.proofs.ValuesRead.{plain_byte}
use Rattle.ua_variant.proofs.fixed_width.U8FixedWidth.first.Goals as goal

pub bounds-octets-0 : goal.bounds-octets-0
unfolding least_octets
bounds-octets-0 c = omega (arith, c.requires.whole)

pub returns : goal.returns
unfolding leaf_at least_octets
returns c = record { read = plain_byte byte c.args.octets.now c.requires.whole (λ i. omega (arith, c.type_inv.octets i)) }
