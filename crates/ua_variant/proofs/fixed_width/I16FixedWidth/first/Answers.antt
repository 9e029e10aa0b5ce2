use Rattle.std.proofs.Common.{arith, rules}
use Rattle.std.specs.Int.{w16, cast_signed}
use Rattle.std.proofs.lemmas.Int.{to_z-of_z}
use mir.Val.{SFits}
use Rattle.ua_variant.specs.Data.{int16}
use Rattle.ua_variant.specs.Leaf.{leaf_at}
use Rattle.ua_variant.specs.Least.{least_octets}
use Rattle.ua_variant.proofs.ValuesRead.{made_first}
use Rattle.ua_variant.proofs.fixed_width.I16FixedWidth.first.Goals as goal

pub read_i16-requires : goal.read_i16-requires
unfolding least_octets
read_i16-requires c = c.requires.whole

pub returns : goal.returns
unfolding leaf_at least_octets
returns c =
    let fits : SFits w16 c.read_i16.result = search rules in
    record {
      read = rw (to_z-of_z w16 c.read_i16.result fits) (made_first 2 (cast_signed w16) int16 c.args.octets.now c.read_i16.result c.requires.whole
          (λ i. omega (arith, c.type_inv.octets i)) c.read_i16.ensures);
    }
