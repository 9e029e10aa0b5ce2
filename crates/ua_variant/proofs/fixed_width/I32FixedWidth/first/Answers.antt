use Rattle.std.proofs.Common.{arith, rules}
use Rattle.std.specs.Int.{w32, cast_signed}
use Rattle.std.proofs.lemmas.Int.{to_z-of_z}
use mir.Val.{SFits}
use Rattle.ua_variant.specs.Data.{int32}
use Rattle.ua_variant.specs.Leaf.{leaf_at}
use Rattle.ua_variant.specs.Least.{least_octets}
use Rattle.ua_variant.proofs.ValuesRead.{made_first}
use Rattle.ua_variant.proofs.fixed_width.I32FixedWidth.first.Goals as goal

pub read_i32-requires : goal.read_i32-requires
unfolding least_octets
read_i32-requires c = c.requires.whole

pub returns : goal.returns
unfolding leaf_at least_octets
returns c =
    let fits : SFits w32 c.read_i32.result = search rules in
    record {
      read = rw (to_z-of_z w32 c.read_i32.result fits) (made_first 4 (cast_signed w32) int32 c.args.octets.now c.read_i32.result c.requires.whole
          (λ i. omega (arith, c.type_inv.octets i)) c.read_i32.ensures);
    }
