use Rattle.std.proofs.Common.{◌≡◌, ap, ◌∙◌, set, arith, rules}
use Rattle.ua_wire.specs.Boolean.{octet_of, boolean as boolean_format}
use Rattle.ua_variant.specs.Least.{least_octets}
use Rattle.ua_variant.proofs.ValuesRead.{octet_below, byte_set}
use Rattle.ua_variant.proofs.fixed_width.BoolFixedWidth.put.Goals as goal

pub bounds-octets-0 : goal.bounds-octets-0
unfolding least_octets
bounds-octets-0 c = omega (arith, c.requires.whole)

pub returns : goal.returns
unfolding least_octets boolean_format
returns c =
    let same : c.from.result ≡ octet_of c.args.self = search rules in
    record { written = ap (set c.args.octets.now 0) same ∙ byte_set c.args.octets.now (octet_of c.args.self) c.requires.whole (octet_below c.args.self) }
