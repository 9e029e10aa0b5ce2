use Rattle.std.proofs.Common.{arith, rules}
use Rattle.std.specs.Int.{w64, cast_signed}
use Rattle.std.proofs.lemmas.Int.{to_z-of_z}
use mir.Val.{SFits}
use Rattle.ua_builtin.specs.DateTime.{of_ticks, date_time as date_time_format}
use Rattle.ua_variant.specs.Data.{date_time}
use Rattle.ua_variant.specs.Leaf.{leaf_at}
use Rattle.ua_variant.specs.Least.{least_octets}
use Rattle.ua_variant.proofs.ValuesRead.{remade_first}
use Rattle.ua_variant.proofs.fixed_width.DateTimeFixedWidth.first.Goals as goal

pub read_i64-requires : goal.read_i64-requires
unfolding least_octets
read_i64-requires c = c.requires.whole

pub returns : goal.returns
unfolding leaf_at least_octets date_time_format
returns c =
    let fits : SFits w64 c.read_i64.result = search rules in
    record {
      read = rw (to_z-of_z w64 c.read_i64.result fits)
          (remade_first 8 (cast_signed w64) of_ticks date_time c.args.octets.now c.read_i64.result c.requires.whole (λ i. omega (arith, c.type_inv.octets i))
          c.read_i64.ensures);
    }
