use Rattle.std.proofs.Common.{ap, arith}
use Rattle.ua_wire.specs.DoubleBits.{double_from_bits, double_bits}
use Rattle.ua_variant.specs.Data.{double}
use Rattle.ua_variant.specs.Leaf.{leaf_at}
use Rattle.ua_variant.specs.Least.{least_octets}
use Rattle.ua_variant.proofs.ValuesRead.{made_first}
use Rattle.ua_variant.proofs.fixed_width.DoubleBitsFixedWidth.first.Goals as goal

pub read_u64-requires : goal.read_u64-requires
unfolding least_octets
read_u64-requires c = c.requires.whole

pub returns : goal.returns
unfolding leaf_at least_octets double_bits
returns c =
    record {
      read = made_first 8 double_from_bits double c.args.octets.now (double_from_bits c.read_u64.result) c.requires.whole
          (λ i. omega (arith, c.type_inv.octets i))
          (ap double_from_bits c.read_u64.ensures);
    }
