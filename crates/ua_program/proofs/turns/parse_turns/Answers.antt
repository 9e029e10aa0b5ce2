use Rattle.std.proofs.Common.{length}
use Rattle.std.proofs.lemmas.Iterator.Consumers.{YieldsList-end, YieldsList-turn}
use Rattle.std.proofs.lemmas.Iterator.Splits.{YieldsList-from_lines}
use Rattle.std.proofs.lemmas.List.{length_push}
use Rattle.std.proofs.lemmas.Result.{err_from_is_err_and}
use Rattle.ua_program.proofs.Recordings.{recorded_all, recorded_first, recorded_more, text_fault}
use Rattle.ua_program.proofs.turns.parse_turns.Goals as goal

pub loop-line-init : goal.loop-line-init
loop-line-init c = recorded_first _ _ _ _ c.new-turns.ensures

pub loop-line-preserved : goal.loop-line-preserved
loop-line-preserved c =
    let at = c.loop-line in
    let here = YieldsList-turn (YieldsList-from_lines c.args.text.now cc) at.yielded _ at.yielded_by _ _ c.in-Some.line c.in-Some.is c.next.ensures.steps in
    recorded_more c.args.text.now (length at.yielded) _ c.in-Some.line.now _ _ _ _ _ _ (length_push at.yielded c.in-Some.line) here at.invariant
    (c.in_ok-push_line.ensures.adds at.invariant.read at.invariant.are)

pub returns-in_err-push_line-clause-faults : goal.returns-in_err-push_line-clause-faults
returns-in_err-push_line-clause-faults c =
    let at = c.loop-line in
    let here = YieldsList-turn (YieldsList-from_lines c.args.text.now cc) at.yielded _ at.yielded_by _ _ c.in-Some.line c.in-Some.is c.next.ensures.steps in
    let p = err_from_is_err_and c.from_residual.result c.from_residual.ensures.1 in
    rw p.1 (text_fault c.args.file c.args.text.now (length at.yielded) c.in-Some.line.now _ _ _ c.in_err-push_line.field-0.0 p.0 p.2 here at.invariant
    c.in_err-push_line.ensures.faults)

pub returns-clause-turns : goal.returns-clause-turns
returns-clause-turns c =
    let at = c.loop-line in
    let end = YieldsList-end (YieldsList-from_lines c.args.text.now cc) at.yielded _ at.yielded_by _ _ c.in-None.is c.next.ensures.steps in
    recorded_all c.args.text.now (length at.yielded) _ _ _ end.1 at.invariant
