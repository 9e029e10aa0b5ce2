use Rattle.std.proofs.Common.{length, sym, ap, ◌∙◌}
use Rattle.ua_variant.specs.View.{variant_of}
use Rattle.ua_nodes.specs.Range.{elements_of_array}
use Rattle.ua_nodes.proofs.Ranges.{elements_many}
use Rattle.ua_nodes.proofs.node.NodeValue.element_count.Goals as goal

pub returns-in-Many : goal.returns-in-Many
returns-in-Many c =
    let v = c.in-Many in
    c.count_in.ensures ∙ ap length (sym (elements_many v.kind v.items v.dims) ∙ ap elements_of_array (ap variant_of (sym v.is) ∙ c.get.ensures))
