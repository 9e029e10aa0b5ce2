use Rattle.std.proofs.Common.{◌≡◌, ◌-◌, map}
use Rattle.ua_wire.specs.Format.{StaysBehind}
use Rattle.ua_variant.specs.View.{scalar_of}
use Rattle.ua_variant.specs.Decoding.{row_at}
use Rattle.ua_variant.specs.Blocks.{with_front}
use Rattle.ua_variant.proofs.BlocksRead.{leaves_at}
use Rattle.ua_variant.proofs.records.read_reserved_row.Given as goal

abbrev pub invariant-loop : goal.invariant-loop
invariant-loop g l = record {
  so_far : with_front (map scalar_of l.items.items) (row_at (l.count - l.counter) (leaves_at l.kind) (g.S.Source.octets l.src))
      ≡ row_at l.count (leaves_at l.kind) (g.S.Source.octets l.fn.src);
  behind : StaysBehind (g.S.Source.octets l.fn.src) (g.S.Source.octets l.src);
}
