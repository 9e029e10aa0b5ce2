use Rattle.std.proofs.Common.{◌≡◌, ◌+◌, ◌*◌, ◌-◌}
use Rattle.ua_wire.specs.Exact.{skipped}
use Rattle.ua_wire.specs.Format.{StaysBehind}
use Rattle.ua_variant.specs.Decoding.{row_at, scalars_at}
use Rattle.ua_variant.proofs.skip.+skips.Given as goal

abbrev pub decreases-skip_variant : goal.decreases-skip_variant
decreases-skip_variant g l = 10 * l.depth + 1

abbrev pub decreases-skip_tagged : goal.decreases-skip_tagged
decreases-skip_tagged g l = 10 * l.depth + 9

abbrev pub decreases-skip_array : goal.decreases-skip_array
decreases-skip_array g l = 10 * l.depth + 8

abbrev pub decreases-skip_row : goal.decreases-skip_row
decreases-skip_row g l = 10 * l.depth + 6

abbrev pub decreases-skip_scalar : goal.decreases-skip_scalar
decreases-skip_scalar g l = 10 * l.depth + 5

abbrev pub decreases-skip_held : goal.decreases-skip_held
decreases-skip_held g l = 10 * l.depth + 2

abbrev pub decreases-skip_data_value : goal.decreases-skip_data_value
decreases-skip_data_value g l = 10 * l.depth + 2

abbrev pub invariant-skip_row-loop : goal.invariant-skip_row-loop
invariant-skip_row-loop g l = record {
  so_far : skipped (row_at (l.count - l.counter) (scalars_at l.depth l.kind)) (g.S.Source.octets l.src) ≡ skipped (row_at l.count (scalars_at l.depth l.kind))
      (g.S.Source.octets l.fn.src);
  behind : StaysBehind (g.S.Source.octets l.fn.src) (g.S.Source.octets l.src);
}
