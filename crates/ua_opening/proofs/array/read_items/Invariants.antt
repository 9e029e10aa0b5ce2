use Rattle.std.proofs.Common.{◌≡◌, ◌-◌}
use Rattle.ua_builtin.specs.Format.{StaysBehind}
use Rattle.ua_opening.specs.Array.{items_at}
use Rattle.ua_opening.proofs.ItemsRead.{with_front}
use Rattle.ua_opening.proofs.array.read_items.Given as goal

abbrev pub invariant-loop : goal.invariant-loop
invariant-loop g l = record {
  so_far : with_front l.items.items (items_at (g.T.Wire.format.decode l.depth) (l.count - l.counter) (g.S.Source.octets l.src))
      ≡ items_at (g.T.Wire.format.decode l.depth) l.count (g.S.Source.octets l.fn.src);
  behind : StaysBehind (g.S.Source.octets l.fn.src) (g.S.Source.octets l.src);
}
