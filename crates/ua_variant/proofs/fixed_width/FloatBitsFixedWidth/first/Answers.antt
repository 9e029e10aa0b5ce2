use Rattle.std.proofs.Common.{ap, arith}
use Rattle.ua_wire.specs.FloatBits.{float_from_bits, float_bits}
use Rattle.ua_variant.specs.Data.{float}
use Rattle.ua_variant.specs.Leaf.{leaf_at}
use Rattle.ua_variant.specs.Least.{least_octets}
use Rattle.ua_variant.proofs.ValuesRead.{made_first}
use Rattle.ua_variant.proofs.fixed_width.FloatBitsFixedWidth.first.Goals as goal

pub read_u32-requires : goal.read_u32-requires
unfolding least_octets
read_u32-requires c = c.requires.whole

pub returns : goal.returns
unfolding leaf_at least_octets float_bits
returns c =
    record {
      read = made_first 4 float_from_bits float c.args.octets.now (float_from_bits c.read_u32.result) c.requires.whole (λ i. omega (arith, c.type_inv.octets i))
          (ap float_from_bits c.read_u32.ensures);
    }
