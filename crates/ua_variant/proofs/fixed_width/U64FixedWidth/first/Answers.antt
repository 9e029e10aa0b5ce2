use Rattle.std.proofs.Common.{arith}
use Rattle.ua_variant.specs.Data.{uint64}
use Rattle.ua_variant.specs.Leaf.{leaf_at}
use Rattle.ua_variant.specs.Least.{least_octets}
use Rattle.ua_variant.proofs.ValuesRead.{plain_first}
use Rattle.ua_variant.proofs.fixed_width.U64FixedWidth.first.Goals as goal

pub read_u64-requires : goal.read_u64-requires
unfolding least_octets
read_u64-requires c = c.requires.whole

pub returns : goal.returns
unfolding leaf_at least_octets
returns c =
    record { read = plain_first 8 uint64 c.args.octets.now c.read_u64.result c.requires.whole (λ i. omega (arith, c.type_inv.octets i)) c.read_u64.ensures }
