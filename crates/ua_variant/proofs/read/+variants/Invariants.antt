use Rattle.std.proofs.Common.{◌≡◌, ◌+◌, ◌*◌, ◌-◌, map}
use Rattle.ua_wire.specs.Format.{StaysBehind}
use Rattle.ua_variant.specs.View.{scalar_of}
use Rattle.ua_variant.specs.Decoding.{row_at, scalars_at}
use Rattle.ua_variant.specs.Blocks.{with_front}
use Rattle.ua_variant.proofs.read.+variants.Given as goal

abbrev pub decreases-read_tagged : goal.decreases-read_tagged
decreases-read_tagged g l = 10 * l.depth + 9

abbrev pub decreases-read_array : goal.decreases-read_array
decreases-read_array g l = 10 * l.depth + 8

abbrev pub decreases-read_elements : goal.decreases-read_elements
decreases-read_elements g l = 10 * l.depth + 7

abbrev pub decreases-read_row : goal.decreases-read_row
decreases-read_row g l = 10 * l.depth + 6

abbrev pub decreases-read_scalar : goal.decreases-read_scalar
decreases-read_scalar g l = 10 * l.depth + 5

abbrev pub decreases-read_values : goal.decreases-read_values
decreases-read_values g l = 10 * l.depth + 5

abbrev pub decreases-read_data_values : goal.decreases-read_data_values
decreases-read_data_values g l = 10 * l.depth + 4

abbrev pub decreases-read_variants : goal.decreases-read_variants
decreases-read_variants g l = 10 * l.depth + 4

abbrev pub decreases-read_boxed_tagged : goal.decreases-read_boxed_tagged
decreases-read_boxed_tagged g l = 10 * l.depth + 11

abbrev pub decreases-box_tagged : goal.decreases-box_tagged
decreases-box_tagged g l = 10 * l.depth + 10

abbrev pub decreases-read_boxed_array : goal.decreases-read_boxed_array
decreases-read_boxed_array g l = 10 * l.depth + 10

abbrev pub decreases-read_boxed_data_value : goal.decreases-read_boxed_data_value
decreases-read_boxed_data_value g l = 10 * l.depth + 3

abbrev pub decreases-read_boxed_variant : goal.decreases-read_boxed_variant
decreases-read_boxed_variant g l = 10 * l.depth + 3

abbrev pub invariant-read_data_values-loop : goal.invariant-read_data_values-loop
invariant-read_data_values-loop g l = record {
  so_far : with_front (map scalar_of l.items.items) (row_at (l.count - l.counter) (scalars_at l.depth 23) (g.S.Source.octets l.src))
      ≡ row_at l.count (scalars_at l.depth 23) (g.S.Source.octets l.fn.src);
  behind : StaysBehind (g.S.Source.octets l.fn.src) (g.S.Source.octets l.src);
}

abbrev pub invariant-read_variants-loop : goal.invariant-read_variants-loop
invariant-read_variants-loop g l = record {
  so_far : with_front (map scalar_of l.items.items) (row_at (l.count - l.counter) (scalars_at l.depth 24) (g.S.Source.octets l.src))
      ≡ row_at l.count (scalars_at l.depth 24) (g.S.Source.octets l.fn.src);
  behind : StaysBehind (g.S.Source.octets l.fn.src) (g.S.Source.octets l.src);
}
