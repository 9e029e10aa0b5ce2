use Rattle.std.proofs.Common.{arith}
use Rattle.ua_variant.specs.Least.{least_octets}
use Rattle.ua_variant.proofs.ValuesRead.{byte_set}
use Rattle.ua_variant.proofs.fixed_width.U8FixedWidth.put.Goals as goal

pub bounds-octets-0 : goal.bounds-octets-0
unfolding least_octets
bounds-octets-0 c = omega (arith, c.requires.whole)

pub returns : goal.returns
unfolding least_octets
returns c = record { written = byte_set c.args.octets.now c.args.self c.requires.whole (omega (arith, c.ranges.self.fits)) }
