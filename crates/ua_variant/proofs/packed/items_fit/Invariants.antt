use Rattle.std.proofs.Common.{◌≡◌, map, take, true}
use Rattle.ua_variant.specs.Data.{leaf}
use Rattle.ua_variant.specs.Encodable.{scalars_fit}
use Rattle.ua_variant.specs.View.{row}
use Rattle.ua_variant.proofs.packed.items_fit.Given as goal

abbrev pub invariant-loop-item : goal.invariant-loop-item
invariant-loop-item g l = scalars_fit l.kind (row (map leaf (map g.T.Leaf.as_leaf (take l.item-index l.items)))) ≡ true
