use Rattle.std.proofs.Common.{◌∙◌}
use Rattle.ua_fields.proofs.ElementLines.{items_behind}
use Rattle.ua_fields.proofs.array.push_items.Goals as goal

pub returns : goal.returns
returns g c =
    items_behind c.push_elements.result g.T.Lines.tree c.args.place.style c.args.place.margin.now c.deref.result.now c.args.place.path.now _ _ _
    c.args.items.now (c.deref.ensures ∙ c.in_ok-margin.ensures) c.in_ok-push_count.ensures c.push_elements.ensures
