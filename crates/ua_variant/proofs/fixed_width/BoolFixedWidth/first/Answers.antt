use Rattle.std.proofs.Common.{refl, arith}
use Rattle.std.specs.Prelude.{slice_index}
use Rattle.ua_wire.specs.Boolean.{is_set, boolean as boolean_format}
use Rattle.ua_variant.specs.Data.{boolean}
use Rattle.ua_variant.specs.Leaf.{leaf_at}
use Rattle.ua_variant.specs.Least.{least_octets}
use Rattle.ua_variant.proofs.ValuesRead.{made_byte}
use Rattle.ua_variant.proofs.fixed_width.BoolFixedWidth.first.Goals as goal

pub bounds-octets-0 : goal.bounds-octets-0
unfolding least_octets
bounds-octets-0 c = omega (arith, c.requires.whole)

pub returns : goal.returns
unfolding leaf_at least_octets boolean_format
returns c =
    record {
      read = made_byte is_set boolean c.args.octets.now (is_set (slice_index c.args.octets.now 0)) c.requires.whole (λ i. omega (arith, c.type_inv.octets i))
          refl;
    }
