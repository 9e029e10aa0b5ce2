use Rattle.std.proofs.Common.{◌∙◌, length, lit<, ap, sym}
use Rattle.std.proofs.lemmas.Iterator.Consumers.{YieldsList-turn, YieldsList-end}
use Rattle.std.proofs.lemmas.Iterator.Splits.{YieldsList-from_str_split}
use Rattle.std.proofs.lemmas.List.{length_push}
use Rattle.ua_node_files.proofs.Changing.{turn_read, turns_kept, written_to}
use Rattle.ua_node_files.proofs.changed.lines_written.Goals as goal

pub loop-line-preserved : goal.loop-line-preserved
loop-line-preserved c =
    let at = c.loop-line in
    let t = YieldsList-turn (YieldsList-from_str_split 10 c.args.text.now (lit< tt) (cc) (cc) (cc)) at.yielded _ at.yielded_by _ _ c.in-Some.line c.in-Some.is
    c.next.ensures.steps in
    turn_read c.args.text.now (length at.yielded) c.in-Some.line.now c.without_return.result.now _ _ t at.invariant c.without_return.ensures
    c.in_ok-push_written.ensures
    ∙ ap (written_to c.args.text.now) (sym (length_push at.yielded c.in-Some.line))

pub returns : goal.returns
returns c =
    let at = c.loop-line in
    let t = YieldsList-end (YieldsList-from_str_split 10 c.args.text.now (lit< tt) (cc) (cc) (cc)) at.yielded _ at.yielded_by _ _ c.in-None.is
    c.next.ensures.steps in
    turns_kept c.args.text.now (length at.yielded) _ t.1 at.invariant
