use Rattle.std.proofs.Common.{slice_get, string_bytes}
use Rattle.ua_variant.specs.Data.{leaf}
use Rattle.ua_variant.specs.Packed.{packed_leaves}
use Rattle.ua_variant.specs.View.{scalar_of}
use Rattle.ua_texts.proofs.PlainRows.{leaf_added, plain_next, plain_none}
use Rattle.ua_texts.proofs.plain.push_plain_packed.Goals as goal

pub loop-index-init : goal.loop-index-init
loop-index-init c = plain_none c.args.names (string_bytes c.args.out.now)

pub loop-index-preserved : goal.loop-index-preserved
loop-index-preserved c =
    let leaves = packed_leaves c.args.packed.now in
    let added = leaf_added c.args.names _ (scalar_of c.in-Some.scalar) (slice_get leaves c.loop-index.index) _ _ c.in-Some.ensures
    c.in_ok-push_plain_leaf.ensures in
    plain_next c.args.names leaf leaves c.loop-index.index (scalar_of c.in-Some.scalar) _ _ _ _ c.in-Some.ensures c.loop-index.invariant
    c.in_ok-push_comma.ensures added
