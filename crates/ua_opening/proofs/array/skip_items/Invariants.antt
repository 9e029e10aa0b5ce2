use Rattle.std.proofs.Common.{◌≡◌, ◌-◌}
use Rattle.ua_builtin.specs.Exact.{skipped}
use Rattle.ua_builtin.specs.Format.{StaysBehind}
use Rattle.ua_opening.specs.Array.{items_at}
use Rattle.ua_opening.proofs.array.skip_items.Given as goal

abbrev pub invariant-loop : goal.invariant-loop
invariant-loop g l = record {
  so_far : skipped (items_at (g.T.Wire.format.decode l.depth) (l.count - l.counter)) (g.S.Source.octets l.src)
      ≡ skipped (items_at (g.T.Wire.format.decode l.depth) l.count) (g.S.Source.octets l.fn.src);
  behind : StaysBehind (g.S.Source.octets l.fn.src) (g.S.Source.octets l.src);
}
