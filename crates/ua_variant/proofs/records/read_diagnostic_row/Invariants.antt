use Rattle.std.proofs.Common.{◌≡◌, ◌-◌, map}
use Rattle.ua_wire.specs.Format.{StaysBehind}
use Rattle.ua_variant.specs.View.{scalar_of}
use Rattle.ua_variant.specs.Decoding.{row_at, scalars_at}
use Rattle.ua_variant.specs.Blocks.{with_front}
use Rattle.ua_variant.proofs.records.read_diagnostic_row.Given as goal

abbrev pub invariant-loop : goal.invariant-loop
invariant-loop g l = record {
  so_far : with_front (map scalar_of l.items.items) (row_at (l.count - l.counter) (scalars_at l.depth 25) (g.S.Source.octets l.src))
      ≡ row_at l.count (scalars_at l.depth 25) (g.S.Source.octets l.fn.src);
  behind : StaysBehind (g.S.Source.octets l.fn.src) (g.S.Source.octets l.src);
}
