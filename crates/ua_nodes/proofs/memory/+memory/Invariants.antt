use Rattle.std.proofs.Common.{◌≡◌, ◌+◌, ◌*◌, min, take, map}
use Rattle.ua_variant.specs.Measure.{variant_count, scalar_count, scalars_count, data_value_count}
use Rattle.ua_variant.specs.View.{row, variant_of, scalar_of, data_value_of}
use Rattle.ua_nodes.specs.Memory.{scalars_memory}
use Rattle.ua_nodes.proofs.memory.+memory.Given as goal

abbrev pub decreases-data_value_bytes : goal.decreases-data_value_bytes
decreases-data_value_bytes l = 4 * data_value_count (data_value_of l.value.now) + 1

abbrev pub decreases-row_bytes : goal.decreases-row_bytes
decreases-row_bytes l = 4 * scalars_count (row l.items.now) + 3

abbrev pub decreases-scalar_bytes : goal.decreases-scalar_bytes
decreases-scalar_bytes l = 4 * scalar_count (scalar_of l.value.now) + 2

abbrev pub decreases-variant_bytes : goal.decreases-variant_bytes
decreases-variant_bytes l = 4 * variant_count (variant_of l.value.now)

abbrev pub invariant-row_bytes-loop-s : goal.invariant-row_bytes-loop-s
invariant-row_bytes-loop-s l = l.all ≡ min (scalars_memory (row (map scalar_of (take l.s-index l.s-items)))) 18446744073709551615
