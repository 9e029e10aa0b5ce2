use Rattle.std.proofs.Common.{ℕ, ◌+◌, ◌*◌, List, Option, Some, None, string_bytes, map, take}
use Rattle.ua_variant.specs.Data.{ScalarData}
use Rattle.ua_variant.specs.Measure.{variant_count, scalar_count, scalars_count, data_value_count}
use Rattle.ua_variant.specs.View.{row, scalar_of, variant_of}
use Rattle.ua_texts.proofs.PlainRows.{Added}
use Rattle.ua_texts.proofs.plain.+plain.Given as goal

-- how many elements there are, none of a null array
abbrev count_of : Option (List ScalarData) → ℕ
count_of None = 0
count_of (Some ss) = scalars_count (row ss)

abbrev pub decreases-push_plain_typed : goal.decreases-push_plain_typed
decreases-push_plain_typed l = 8 * variant_count (variant_of l.value.now)

abbrev pub decreases-push_plain_array : goal.decreases-push_plain_array
decreases-push_plain_array l = 8 * count_of l.items.now + 7

abbrev pub decreases-push_plain_items : goal.decreases-push_plain_items
decreases-push_plain_items l = 8 * scalars_count (row l.items.now) + 6

abbrev pub decreases-push_plain_scalars : goal.decreases-push_plain_scalars
decreases-push_plain_scalars l = 8 * scalars_count (row (map scalar_of l.scalars.now)) + 5

abbrev pub decreases-push_plain_scalar : goal.decreases-push_plain_scalar
decreases-push_plain_scalar l = 8 * scalar_count (scalar_of l.scalar.now) + 4

abbrev pub decreases-push_plain_bracketed : goal.decreases-push_plain_bracketed
decreases-push_plain_bracketed l = 8 * variant_count l.value.now + 2

abbrev pub decreases-push_plain_data_value : goal.decreases-push_plain_data_value
decreases-push_plain_data_value l = 8 * data_value_count l.value.now + 2

-- the elements so far were added
abbrev pub invariant-push_plain_scalars-loop-index : goal.invariant-push_plain_scalars-loop-index
invariant-push_plain_scalars-loop-index l = Added l.names (take l.index (map scalar_of l.scalars)) (string_bytes l.fn.out) (string_bytes l.out)
