use Rattle.std.proofs.Common.{◌≡◌, ◌<◌, List, length, refl, rules, arith, ap, subst}
use Rattle.ua_judge.specs.declared.mark.Mark.{Mark}
use Rattle.ua_program.proofs.PrintedSides.{get_same, turns_all, turns_end, turns_first, turns_more}
use Rattle.ua_program.proofs.judge.push_turns.Goals as goal

pub loop-mark-init : goal.loop-mark-init
loop-mark-init c = turns_first c.args.asked.now _ _ _ c.new-printers.result _ c.new-printers.ensures.client c.new-printers.ensures.server
    (c.new-printers.ensures.stand _ _)

pub loop-mark-preserved : goal.loop-mark-preserved
loop-mark-preserved c =
    let t = c.loop-mark.invariant in
    let same = c.deref-mark-items.ensures.value in
    let below : c.loop-mark.mark-index < length c.args.turns.now.marks.items = subst (λ (ms : List Mark). c.loop-mark.mark-index < length ms) same
    c.loop-mark-test.true in
    let here = get_same c.deref-mark-items.result.now c.args.turns.now.marks.items c.loop-mark.mark-index (record { up = 0; down = 0 }) same below in
    turns_more c.args.asked.now _ _ _ c.loop-mark.mark-index _ _ _ _ _ _ _ below refl here t (c.in_ok-print_to.ensures c.args.asked.now t.stand)

pub returns : goal.returns
returns c =
    let t = c.loop-mark.invariant in
    let size = ap length c.deref-mark-items.ensures.value in
    let end = c.loop-mark-test.false in
    let up_is : c.len.result ≡ length c.args.turns.now.up.items = search rules in
    let down_is : c.len-2.result ≡ length c.args.turns.now.down.items = search rules in
    let m = c.in_ok-print_to-2.ensures c.args.asked.now t.stand in
    turns_end c.args.asked.now _ _ _ c.loop-mark.mark-index _ c.loop-mark.printers c.print_to-2.new.self _ _ _ _ (omega (arith, size, end)) up_is down_is t m
    (c.in_ok-print_last.ensures c.args.asked.now _ _ (turns_all c.args.asked.now _ _ _ c.loop-mark.printers c.print_to-2.new.self _ _ up_is down_is t.stand m))
