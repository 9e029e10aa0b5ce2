use Rattle.std.proofs.Common.{◌++◌, ap, ◌∙◌, drop}
use Rattle.ua_wire.specs.DoubleBits.{double_bits}
use Rattle.ua_wire.proofs.NumbersRead.{little_bytes-is}
use Rattle.ua_variant.specs.Least.{least_octets}
use Rattle.ua_variant.proofs.fixed_width.DoubleBitsFixedWidth.put.Goals as goal

pub write_u64-requires : goal.write_u64-requires
unfolding least_octets
write_u64-requires c = c.requires.whole

pub returns : goal.returns
unfolding least_octets double_bits
returns c = record { written = c.write_u64.ensures ∙ ap (λ b. b ++ drop 8 c.args.octets.now) (little_bytes-is 8 _) }
