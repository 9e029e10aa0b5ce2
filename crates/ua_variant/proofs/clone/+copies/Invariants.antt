use Rattle.std.proofs.Common.{◌≡◌, ◌+◌, ◌*◌, take, map}
use Rattle.ua_variant.specs.Measure.{variant_count, scalar_count, scalars_count, data_value_count}
use Rattle.ua_variant.specs.View.{row, variant_of, scalar_of, data_value_of}
use Rattle.ua_variant.proofs.clone.+copies.Given as goal

abbrev pub decreases-copy_row : goal.decreases-copy_row
decreases-copy_row l = 12 * scalars_count (row l.items.now) + 8

abbrev pub decreases-copy_scalars : goal.decreases-copy_scalars
decreases-copy_scalars l = 12 * scalars_count (row (map scalar_of l.items.now)) + 7

abbrev pub decreases-copy_scalar : goal.decreases-copy_scalar
decreases-copy_scalar l = 12 * scalar_count (scalar_of l.value.now) + 4

abbrev pub decreases-copy_variant : goal.decreases-copy_variant
decreases-copy_variant l = 12 * variant_count (variant_of l.value.now)

abbrev pub decreases-copy_boxed_data_value : goal.decreases-copy_boxed_data_value
decreases-copy_boxed_data_value l = 12 * data_value_count l.value.now + 3

abbrev pub decreases-copy_boxed : goal.decreases-copy_boxed
decreases-copy_boxed l = 12 * variant_count l.value.now + 3

abbrev pub decreases-copy_to_heap : goal.decreases-copy_to_heap
decreases-copy_to_heap l = 12 * variant_count (variant_of l.value.now) + 2

abbrev pub decreases-box_copy : goal.decreases-box_copy
decreases-box_copy l = 12 * variant_count (variant_of l.value.now) + 1

abbrev pub decreases-copy_data_value_to_heap : goal.decreases-copy_data_value_to_heap
decreases-copy_data_value_to_heap l = 12 * data_value_count (data_value_of l.value.now) + 2

abbrev pub decreases-push_copy : goal.decreases-push_copy
decreases-push_copy l = 12 * scalar_count (scalar_of l.value.now) + 6

abbrev pub decreases-push_scalar : goal.decreases-push_scalar
decreases-push_scalar l = 12 * scalar_count (scalar_of l.value.now) + 5

abbrev pub invariant-copy_scalars-loop-s : goal.invariant-copy_scalars-loop-s
invariant-copy_scalars-loop-s l = map scalar_of l.copies.items ≡ map scalar_of (take l.s-index l.items)
