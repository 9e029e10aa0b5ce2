use Rattle.ua_fields.proofs.Elements.{elements_next}
use Rattle.ua_fields.proofs.array.push_elements.Goals as goal

pub loop-index-preserved : goal.loop-index-preserved
loop-index-preserved g c =
    elements_next g.T.Lines.tree c.args.place.style c.args.place.margin.now c.args.place.path.now _ _ _ c.args.items.now c.loop-index.index
    c.index-items-index.result c.loop-index-test.true c.index-items-index.is c.loop-index.invariant c.in_ok-push_element.ensures
