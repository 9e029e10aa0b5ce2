use Rattle.std.proofs.Common.{◌≡◌, ◌+◌, ◌*◌, min, take, map, true}
use Rattle.ua_variant.specs.Measure.{scalars_depth, variant_count, scalar_count, scalars_count, data_value_count}
use Rattle.ua_variant.specs.View.{row, variant_of, scalar_of, data_value_of}
use Rattle.ua_variant.specs.Encodable.{scalars_fit}
use Rattle.ua_variant.proofs.encodable.+fits.Given as goal

abbrev pub decreases-data_value_levels_of : goal.decreases-data_value_levels_of
decreases-data_value_levels_of l = 5 * data_value_count (data_value_of l.value.now) + 1

abbrev pub decreases-boxed_data_value_levels_of : goal.decreases-boxed_data_value_levels_of
decreases-boxed_data_value_levels_of l = 5 * data_value_count l.value.now + 2

abbrev pub decreases-boxed_variant_levels_of : goal.decreases-boxed_variant_levels_of
decreases-boxed_variant_levels_of l = 5 * variant_count l.value.now + 2

abbrev pub decreases-row_levels_of : goal.decreases-row_levels_of
decreases-row_levels_of l = 5 * scalars_count (row l.items.now) + 4

abbrev pub decreases-scalar_levels_of : goal.decreases-scalar_levels_of
decreases-scalar_levels_of l = 5 * scalar_count (scalar_of l.value.now) + 3

abbrev pub decreases-variant_levels_of : goal.decreases-variant_levels_of
decreases-variant_levels_of l = 5 * variant_count (variant_of l.value.now)

abbrev pub invariant-row_levels_of-loop-s : goal.invariant-row_levels_of-loop-s
invariant-row_levels_of-loop-s l = record {
  fit : scalars_fit l.kind (row (map scalar_of (take l.s-index l.s-items))) ≡ true;
  deepest : l.deepest ≡ min (scalars_depth (row (map scalar_of (take l.s-index l.s-items)))) 4294967295;
}
