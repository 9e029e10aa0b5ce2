use Rattle.std.proofs.Common.{arith, rules}
use Rattle.std.specs.Int.{w8, cast_signed}
use Rattle.std.proofs.lemmas.Int.{to_z-of_z}
use mir.Val.{SFits}
use Rattle.ua_variant.specs.Data.{sbyte}
use Rattle.ua_variant.specs.Leaf.{leaf_at}
use Rattle.ua_variant.specs.Least.{least_octets}
use Rattle.ua_variant.proofs.ValuesRead.{made_byte}
use Rattle.ua_variant.proofs.fixed_width.I8FixedWidth.first.Goals as goal

pub bounds-octets-0 : goal.bounds-octets-0
unfolding least_octets
bounds-octets-0 c = omega (arith, c.requires.whole)

pub returns : goal.returns
unfolding leaf_at least_octets
returns c =
    let fits : SFits w8 c.cast_signed.result = search rules in
    record {
      read = rw (to_z-of_z w8 c.cast_signed.result fits) (made_byte (cast_signed w8) sbyte c.args.octets.now c.cast_signed.result c.requires.whole
          (λ i. omega (arith, c.type_inv.octets i)) c.cast_signed.ensures);
    }
