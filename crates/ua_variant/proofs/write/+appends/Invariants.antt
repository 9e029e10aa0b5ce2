use Rattle.std.proofs.Common.{◌≡◌, ◌+◌, ◌*◌, ◌++◌, take, map}
use Rattle.ua_variant.specs.Measure.{variant_count, scalar_count, scalars_count, data_value_count}
use Rattle.ua_variant.specs.View.{row, variant_of, scalar_of, data_value_of}
use Rattle.ua_variant.specs.Canonical.{row_canonical}
use Rattle.ua_variant.proofs.write.+appends.Given as goal

abbrev pub decreases-append_data_value : goal.decreases-append_data_value
decreases-append_data_value l = 5 * data_value_count (data_value_of l.value.now)

abbrev pub decreases-append_boxed_data_value : goal.decreases-append_boxed_data_value
decreases-append_boxed_data_value l = 5 * data_value_count l.value.now + 1

abbrev pub decreases-append_boxed_variant : goal.decreases-append_boxed_variant
decreases-append_boxed_variant l = 5 * variant_count l.value.now + 1

abbrev pub decreases-append_row : goal.decreases-append_row
decreases-append_row l = 5 * scalars_count (row l.items.now) + 3

abbrev pub decreases-append_scalar : goal.decreases-append_scalar
decreases-append_scalar l = 5 * scalar_count (scalar_of l.value.now) + 2

abbrev pub decreases-append_variant : goal.decreases-append_variant
decreases-append_variant l = 5 * variant_count (variant_of l.value.now)

abbrev pub invariant-append_row-loop-s : goal.invariant-append_row-loop-s
invariant-append_row-loop-s l = l.out.items ≡ l.fn.out.items ++ row_canonical (row (map scalar_of (take l.s-index l.s-items)))

abbrev pub decreases-append_array : goal.decreases-append_array
decreases-append_array l = 5 * scalars_count (row l.items.now) + 4

abbrev pub decreases-append_valued : goal.decreases-append_valued
decreases-append_valued l = 5 * variant_count (variant_of l.value.now) + 1
