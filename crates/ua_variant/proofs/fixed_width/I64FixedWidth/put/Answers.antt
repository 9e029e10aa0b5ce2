use Rattle.std.proofs.Common.{◌++◌, ap, ◌∙◌, drop, rules}
use Rattle.std.specs.Int.{w64}
use Rattle.std.proofs.lemmas.Int.{to_z-of_z}
use mir.Val.{SFits}
use Rattle.ua_wire.proofs.NumbersRead.{little_bytes-is}
use Rattle.ua_variant.specs.Least.{least_octets}
use Rattle.ua_variant.proofs.fixed_width.I64FixedWidth.put.Goals as goal

pub write_i64-requires : goal.write_i64-requires
unfolding least_octets
write_i64-requires c = c.requires.whole

pub returns : goal.returns
unfolding least_octets
returns c =
    let fits : SFits w64 c.args.self = search rules in
    record { written = rw (to_z-of_z w64 c.args.self fits) at c.write_i64.ensures ∙ ap (λ b. b ++ drop 8 c.args.octets.now) (little_bytes-is 8 _) }
