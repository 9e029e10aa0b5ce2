use Rattle.std.proofs.Common.{arith, rules}
use Rattle.std.specs.Int.{w64, cast_signed}
use Rattle.std.proofs.lemmas.Int.{to_z-of_z}
use mir.Val.{SFits}
use Rattle.ua_variant.specs.Data.{int64}
use Rattle.ua_variant.specs.Leaf.{leaf_at}
use Rattle.ua_variant.specs.Least.{least_octets}
use Rattle.ua_variant.proofs.ValuesRead.{made_first}
use Rattle.ua_variant.proofs.fixed_width.I64FixedWidth.first.Goals as goal

pub read_i64-requires : goal.read_i64-requires
unfolding least_octets
read_i64-requires c = c.requires.whole

pub returns : goal.returns
unfolding leaf_at least_octets
returns c =
    let fits : SFits w64 c.read_i64.result = search rules in
    record {
      read = rw (to_z-of_z w64 c.read_i64.result fits) (made_first 8 (cast_signed w64) int64 c.args.octets.now c.read_i64.result c.requires.whole
          (λ i. omega (arith, c.type_inv.octets i)) c.read_i64.ensures);
    }
