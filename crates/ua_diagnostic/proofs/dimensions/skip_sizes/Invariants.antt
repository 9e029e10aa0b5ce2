use Rattle.std.proofs.Common.{◌≡◌, ◌-◌, ◌*◌, ◌≤◌, min}
use Rattle.ua_wire.specs.Exact.{image_read}
use Rattle.ua_wire.specs.Format.{StaysBehind}
use Rattle.ua_diagnostic.specs.Dimensions.{product, sizes_at}
use Rattle.ua_diagnostic.proofs.dimensions.skip_sizes.Given as goal

abbrev pub invariant-loop : goal.invariant-loop
invariant-loop g l = record {
  so_far : image_read (λ sizes. min (l.all * product sizes) 18446744073709551615) (sizes_at (l.count - l.counter)) (g.S.Source.octets l.src)
      ≡ image_read (λ sizes. min (product sizes) 18446744073709551615) (sizes_at l.count) (g.S.Source.octets l.fn.src);
  within : l.all ≤ 18446744073709551615;
  behind : StaysBehind (g.S.Source.octets l.fn.src) (g.S.Source.octets l.src);
}
