use Rattle.std.proofs.Common.{◌≡◌, ◌*◌, map, take}
use Rattle.ua_variant.specs.Canonical.{row_canonical}
use Rattle.ua_variant.specs.Data.{leaf}
use Rattle.ua_variant.specs.Least.{least_octets}
use Rattle.ua_variant.specs.View.{row}
use Rattle.ua_variant.proofs.fixed_width.write_values.Given as goal

abbrev pub invariant-values : goal.invariant-values
invariant-values g l = take (least_octets g.T.Leaf.kind * l.i) l.octets ≡ row_canonical (row (map leaf (map g.T.Leaf.as_leaf (take l.i l.values))))
