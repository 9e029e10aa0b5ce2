use Rattle.std.proofs.Common.{sym, ap, ◌∙◌}
use Rattle.ua_variant.specs.Data.{many}
use Rattle.ua_variant.specs.View.{row, variant_of}
use Rattle.ua_nodes.specs.Range.{range_part_of}
use Rattle.ua_nodes.proofs.Ranges.{part_many}
use Rattle.ua_nodes.proofs.node.NodeValue.part.Goals as goal

pub returns-in_ok-clone_part-in-Many : goal.returns-in_ok-clone_part-in-Many
returns-in_ok-clone_part-in-Many c =
    let v = c.in-Many in
    let r = c.args.range in
    let elements = c.in_ok-clone_part-in-Many.ensures in
    let none = c.none.ensures in
    (λ i. many v.kind (row (elements i)) (none i)) ∙ sym (part_many r v.kind v.items v.dims) ∙ ap (range_part_of r) (ap variant_of (sym v.is) ∙ c.get.ensures)
