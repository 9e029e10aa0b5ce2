use Rattle.std.proofs.Common.{◌≡◌, ◌<◌, of_z, ap, ◌∙◌, set, arith, rules}
use Rattle.std.specs.Int.{w8}
use Rattle.ua_variant.specs.Least.{least_octets}
use Rattle.ua_variant.proofs.ValuesRead.{byte_set}
use Rattle.ua_variant.proofs.fixed_width.I8FixedWidth.put.Goals as goal

pub bounds-octets-0 : goal.bounds-octets-0
unfolding least_octets
bounds-octets-0 c = omega (arith, c.requires.whole)

pub returns : goal.returns
unfolding least_octets
returns c =
    let same : c.cast_unsigned.result ≡ of_z w8 c.args.self = search rules in
    let below : of_z w8 c.args.self < 256 = search rules in
    record { written = ap (set c.args.octets.now 0) same ∙ byte_set c.args.octets.now (of_z w8 c.args.self) c.requires.whole below }
