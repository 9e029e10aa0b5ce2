use Rattle.std.proofs.Common.{ℕ, ◌+◌, ◌*◌, List, Option, Some, None, map, take}
use Rattle.ua_variant.specs.Data.{ScalarData}
use Rattle.ua_variant.specs.Measure.{variant_count, scalar_count, scalars_count, data_value_count}
use Rattle.ua_variant.specs.View.{elements_of, row, scalar_of, variant_of}
use Rattle.ua_answers.specs.PlainJson.{AreJson}
use Rattle.ua_answers.proofs.PlainTokens.{EachJson}
use Rattle.ua_answers.proofs.plain_object.+plain_objects.Given as goal

-- how many elements there are, none of a null array
abbrev count_of : Option (List ScalarData) → ℕ
count_of None = 0
count_of (Some ss) = scalars_count (row ss)

abbrev pub decreases-put_plain_variant : goal.decreases-put_plain_variant
decreases-put_plain_variant l = 16 * variant_count (variant_of l.value.now)

abbrev pub decreases-put_plain_one : goal.decreases-put_plain_one
decreases-put_plain_one l = 16 * scalar_count (scalar_of l.scalar.now) + 5

abbrev pub decreases-put_plain_array : goal.decreases-put_plain_array
decreases-put_plain_array l = 16 * count_of l.items.now + 12

abbrev pub decreases-put_plain_items : goal.decreases-put_plain_items
decreases-put_plain_items l = 16 * scalars_count (row l.items.now) + 11

abbrev pub decreases-put_plain_list : goal.decreases-put_plain_list
decreases-put_plain_list l = 16 * scalars_count (row (elements_of l.elements.now)) + 10

abbrev pub decreases-put_plain_elements : goal.decreases-put_plain_elements
decreases-put_plain_elements l = 16 * scalars_count (row (elements_of l.elements.now)) + 9

abbrev pub decreases-put_plain_scalars : goal.decreases-put_plain_scalars
decreases-put_plain_scalars l = 16 * scalars_count (row (map scalar_of l.scalars.now)) + 8

abbrev pub decreases-put_plain_scalar : goal.decreases-put_plain_scalar
decreases-put_plain_scalar l = 16 * scalar_count (scalar_of l.scalar.now) + 4

abbrev pub decreases-put_plain_within : goal.decreases-put_plain_within
decreases-put_plain_within l = 16 * variant_count l.value.now + 2

abbrev pub decreases-put_plain_data_value : goal.decreases-put_plain_data_value
decreases-put_plain_data_value l = 16 * data_value_count l.value.now + 2

-- the elements so far were put
abbrev pub invariant-put_plain_scalars-loop-scalar : goal.invariant-put_plain_scalars-loop-scalar
invariant-put_plain_scalars-loop-scalar l = EachJson l.fn.line l.line (AreJson l.names (row (take l.scalar-index (map scalar_of l.scalars))))
