use Rattle.std.proofs.Common.{◌-◌, map, refl, ap, ◌∙◌}
use Rattle.ua_variant.proofs.PackedRows.{part_of}
use Rattle.ua_variant.proofs.packed.copy_part.Goals as goal

pub returns : goal.returns
returns g c =
    c.pack.ensures.leaves ∙ ap (map g.T.Leaf.as_leaf) c.in_ok-from_slice.ensures.items
    ∙ part_of g.T.Leaf.as_leaf c.args.from (c.args.to - c.args.from) c.args.items.now (map g.T.Leaf.as_leaf c.args.items.now) refl
