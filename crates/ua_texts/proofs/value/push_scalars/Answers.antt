use Rattle.ua_variant.specs.View.{scalar_of}
use Rattle.ua_texts.proofs.Rows.{at_index, items_next}
use Rattle.ua_texts.proofs.value.push_scalars.Goals as goal

pub loop-index-preserved : goal.loop-index-preserved
loop-index-preserved c =
    items_next scalar_of c.args.scalars.now c.loop-index.index (scalar_of c.index-scalars-index.result) _ _ _
    (at_index scalar_of c.args.scalars.now c.loop-index.index c.index-scalars-index.result c.loop-index-test.true c.index-scalars-index.is)
    c.loop-index.invariant c.in_ok-push_item.ensures
