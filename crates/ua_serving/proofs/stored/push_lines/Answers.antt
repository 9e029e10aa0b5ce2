use Rattle.std.proofs.Common.{string_bytes}
use Rattle.ua_serving.proofs.Storing.{added_next, added_none}
use Rattle.ua_serving.proofs.stored.push_lines.Goals as goal

pub loop-item-init : goal.loop-item-init
loop-item-init c = added_none c.args.plain (string_bytes c.args.out.now)

pub loop-item-preserved : goal.loop-item-preserved
loop-item-preserved c = added_next c.args.plain c.args.items.now c.loop-item.item-index _ c.item-item.result _ _ _ c.loop-item-test.true c.item-item.is
    c.loop-item.invariant c.in_ok-push_line.ensures
