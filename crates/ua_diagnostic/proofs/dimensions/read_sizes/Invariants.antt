use Rattle.std.proofs.Common.{◌≡◌, ◌-◌}
use Rattle.ua_wire.specs.Format.{StaysBehind}
use Rattle.ua_diagnostic.specs.Dimensions.{sizes_at}
use Rattle.ua_diagnostic.proofs.Extents.{with_sizes}
use Rattle.ua_diagnostic.proofs.dimensions.read_sizes.Given as goal

abbrev pub invariant-loop : goal.invariant-loop
invariant-loop g l = record {
  so_far : with_sizes l.sizes.items (sizes_at (l.count - l.counter) (g.S.Source.octets l.src)) ≡ sizes_at l.count (g.S.Source.octets l.fn.src);
  behind : StaysBehind (g.S.Source.octets l.fn.src) (g.S.Source.octets l.src);
}
