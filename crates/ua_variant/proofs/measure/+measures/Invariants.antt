use Rattle.std.proofs.Common.{◌≡◌, ◌+◌, ◌*◌, min, take, map}
use Rattle.ua_variant.specs.Measure.{scalars_depth, variant_count, scalar_count, scalars_count, data_value_count}
use Rattle.ua_variant.specs.View.{row, variant_of, scalar_of, data_value_of}
use Rattle.ua_variant.proofs.measure.+measures.Given as goal

abbrev pub decreases-measure_data_value : goal.decreases-measure_data_value
decreases-measure_data_value l = 4 * data_value_count (data_value_of l.value.now) + 1

abbrev pub decreases-measure_row : goal.decreases-measure_row
decreases-measure_row l = 4 * scalars_count (row l.items.now) + 3

abbrev pub decreases-measure_scalar : goal.decreases-measure_scalar
decreases-measure_scalar l = 4 * scalar_count (scalar_of l.value.now) + 2

abbrev pub decreases-measure_variant : goal.decreases-measure_variant
decreases-measure_variant l = 4 * variant_count (variant_of l.value.now)

abbrev pub invariant-measure_row-loop-s : goal.invariant-measure_row-loop-s
invariant-measure_row-loop-s l = record {
  depth : l.deepest ≡ min (scalars_depth (row (map scalar_of (take l.s-index l.s-items)))) 4294967295;
  count : l.all ≡ min (scalars_count (row (map scalar_of (take l.s-index l.s-items)))) 18446744073709551615;
}
