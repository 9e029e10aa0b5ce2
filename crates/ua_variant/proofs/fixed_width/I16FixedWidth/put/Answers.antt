use Rattle.std.proofs.Common.{◌++◌, ap, ◌∙◌, drop, rules}
use Rattle.std.specs.Int.{w16}
use Rattle.std.proofs.lemmas.Int.{to_z-of_z}
use mir.Val.{SFits}
use Rattle.ua_wire.proofs.NumbersRead.{little_bytes-is}
use Rattle.ua_variant.specs.Least.{least_octets}
use Rattle.ua_variant.proofs.fixed_width.I16FixedWidth.put.Goals as goal

pub write_i16-requires : goal.write_i16-requires
unfolding least_octets
write_i16-requires c = c.requires.whole

pub returns : goal.returns
unfolding least_octets
returns c =
    let fits : SFits w16 c.args.self = search rules in
    record { written = rw (to_z-of_z w16 c.args.self fits) at c.write_i16.ensures ∙ ap (λ b. b ++ drop 2 c.args.octets.now) (little_bytes-is 2 _) }
