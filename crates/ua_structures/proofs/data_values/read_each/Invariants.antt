use Rattle.std.proofs.Common.{◌≡◌, ◌-◌}
use Rattle.ua_builtin.specs.Format.{StaysBehind}
use Rattle.ua_opening.specs.Array.{items_at}
use Rattle.ua_opening.proofs.ItemsRead.{with_front}
use Rattle.ua_variant.specs.Formats.{data_value_format}
use Rattle.ua_structures.proofs.data_values.read_each.Given as goal

abbrev pub invariant-loop : goal.invariant-loop
invariant-loop g l = record {
  so_far : with_front l.items.items (items_at (data_value_format.decode l.depth) (l.count - l.counter) (g.S.Source.octets l.src))
      ≡ items_at (data_value_format.decode l.depth) l.count (g.S.Source.octets l.fn.src);
  behind : StaysBehind (g.S.Source.octets l.fn.src) (g.S.Source.octets l.src);
}
