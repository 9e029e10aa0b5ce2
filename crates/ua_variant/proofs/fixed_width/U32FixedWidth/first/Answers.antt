use Rattle.std.proofs.Common.{arith}
use Rattle.ua_variant.specs.Data.{uint32}
use Rattle.ua_variant.specs.Leaf.{leaf_at}
use Rattle.ua_variant.specs.Least.{least_octets}
use Rattle.ua_variant.proofs.ValuesRead.{plain_first}
use Rattle.ua_variant.proofs.fixed_width.U32FixedWidth.first.Goals as goal

pub read_u32-requires : goal.read_u32-requires
unfolding least_octets
read_u32-requires c = c.requires.whole

pub returns : goal.returns
unfolding leaf_at least_octets
returns c =
    record { read = plain_first 4 uint32 c.args.octets.now c.read_u32.result c.requires.whole (λ i. omega (arith, c.type_inv.octets i)) c.read_u32.ensures }
