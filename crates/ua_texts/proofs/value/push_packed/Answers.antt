use Rattle.ua_variant.specs.Data.{leaf}
use Rattle.ua_variant.specs.Packed.{packed_leaves}
use Rattle.ua_variant.specs.View.{scalar_of}
use Rattle.ua_texts.proofs.Rows.{items_next}
use Rattle.ua_texts.proofs.value.push_packed.Goals as goal

pub loop-index-preserved : goal.loop-index-preserved
loop-index-preserved c = items_next leaf (packed_leaves c.args.packed.now) c.loop-index.index (scalar_of c.in-Some.scalar) _ _ _ c.in-Some.ensures
    c.loop-index.invariant c.in_ok-push_item.ensures
