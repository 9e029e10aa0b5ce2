use Rattle.std.proofs.Common.{◌++◌, ap, ◌∙◌, drop}
use Rattle.ua_wire.specs.FloatBits.{float_bits}
use Rattle.ua_wire.proofs.NumbersRead.{little_bytes-is}
use Rattle.ua_variant.specs.Least.{least_octets}
use Rattle.ua_variant.proofs.fixed_width.FloatBitsFixedWidth.put.Goals as goal

pub write_u32-requires : goal.write_u32-requires
unfolding least_octets
write_u32-requires c = c.requires.whole

pub returns : goal.returns
unfolding least_octets float_bits
returns c = record { written = c.write_u32.ensures ∙ ap (λ b. b ++ drop 4 c.args.octets.now) (little_bytes-is 4 _) }
