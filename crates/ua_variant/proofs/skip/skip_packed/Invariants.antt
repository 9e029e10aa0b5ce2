use Rattle.std.proofs.Common.{◌≡◌}
use Rattle.ua_wire.specs.Exact.{skipped}
use Rattle.ua_wire.specs.Format.{StaysBehind}
use Rattle.ua_variant.specs.Decoding.{row_at}
use Rattle.ua_variant.proofs.BlocksRead.{leaves_at}
use Rattle.ua_variant.proofs.skip.skip_packed.Given as goal

abbrev pub invariant-loop-left : goal.invariant-loop-left
invariant-loop-left g l = record {
  so_far : skipped (row_at l.left (leaves_at l.kind)) (g.S.Source.octets l.src) ≡ skipped (row_at l.count (leaves_at l.kind)) (g.S.Source.octets l.fn.src);
  behind : StaysBehind (g.S.Source.octets l.fn.src) (g.S.Source.octets l.src);
}

abbrev pub decreases-loop-left : goal.decreases-loop-left
decreases-loop-left g l = l.left
