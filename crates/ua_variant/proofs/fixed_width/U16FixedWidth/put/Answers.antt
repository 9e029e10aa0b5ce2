use Rattle.std.proofs.Common.{◌++◌, ap, ◌∙◌, drop}
use Rattle.ua_wire.proofs.NumbersRead.{little_bytes-is}
use Rattle.ua_variant.specs.Least.{least_octets}
use Rattle.ua_variant.proofs.fixed_width.U16FixedWidth.put.Goals as goal

pub write_u16-requires : goal.write_u16-requires
unfolding least_octets
write_u16-requires c = c.requires.whole

pub returns : goal.returns
unfolding least_octets
returns c = record { written = c.write_u16.ensures ∙ ap (λ b. b ++ drop 2 c.args.octets.now) (little_bytes-is 2 _) }
