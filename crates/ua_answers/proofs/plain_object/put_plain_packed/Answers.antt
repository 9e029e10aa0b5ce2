use Rattle.std.proofs.Common.{slice_get}
use Rattle.ua_variant.specs.Data.{leaf}
use Rattle.ua_variant.specs.Packed.{packed_leaves}
use Rattle.ua_variant.specs.View.{scalar_of}
use Rattle.ua_answers.proofs.PlainTokens.{json_next, json_none, leaf_put}
use Rattle.ua_answers.proofs.plain_object.put_plain_packed.Goals as goal

pub loop-index-init : goal.loop-index-init
loop-index-init c = json_none c.args.names c.args.line.now

pub loop-index-preserved : goal.loop-index-preserved
loop-index-preserved c =
    let leaves = packed_leaves c.args.packed.now in
    let s = scalar_of c.in-Some.scalar in
    let put = leaf_put c.args.names s (slice_get leaves c.loop-index.index) c.loop-index.line c.put_plain_leaf.new.line c.in-Some.ensures
    c.in_ok-put_plain_leaf.ensures in
    json_next c.args.names leaf leaves c.loop-index.index s c.args.line.now c.loop-index.line c.put_plain_leaf.new.line c.in-Some.ensures
    c.loop-index.invariant put
