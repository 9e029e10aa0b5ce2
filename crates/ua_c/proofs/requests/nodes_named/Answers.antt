use Rattle.std.proofs.Common.{length, lit<, ap, ◌∙◌}
use Rattle.std.proofs.lemmas.Iterator.Consumers.{YieldsList-end, YieldsList-turn}
use Rattle.std.proofs.lemmas.Iterator.Splits.{YieldsList-from_str_split}
use Rattle.std.proofs.lemmas.List.{length_push}
use Rattle.ua_c.proofs.Named.{named_all, named_more, none_told}
use Rattle.ua_c.proofs.requests.nodes_named.Goals as goal

-- a line that names none
pub returns-in-Err-clause-fault : goal.returns-in-Err-clause-fault
returns-in-Err-clause-fault c =
    let at = c.loop-line in
    let here = YieldsList-turn (YieldsList-from_str_split 10 c.args.text.now (lit< tt) (cc) (cc) (cc)) at.yielded _ at.yielded_by _ _ c.in-Some.line
    c.in-Some.is c.next.ensures.steps in
    none_told c.args.text.now (length at.yielded) _ c.in-Some.line.now c.in-Err.status at.nodes.items c.bad_line.result c.bad_line.ensures
    (ap length c.as_slice.ensures.value) here at.invariant c.in-Err.ensures.fault

-- one line more
pub loop-line-preserved : goal.loop-line-preserved
loop-line-preserved c =
    let at = c.loop-line in
    let here = YieldsList-turn (YieldsList-from_str_split 10 c.args.text.now (lit< tt) (cc) (cc) (cc)) at.yielded _ at.yielded_by _ _ c.in-Some.line
    c.in-Some.is c.next.ensures.steps in
    rw c.in-Ok-push.ensures.items
    (named_more c.args.text.now (length at.yielded) _ c.in-Some.line.now at.nodes.items c.in-Ok.node (length_push at.yielded c.in-Some.line) here at.invariant
    c.in-Ok.ensures.node)

-- all lines
pub returns-clause-nodes : goal.returns-clause-nodes
returns-clause-nodes c =
    let at = c.loop-line in
    let end = YieldsList-end (YieldsList-from_str_split 10 c.args.text.now (lit< tt) (cc) (cc) (cc)) at.yielded _ at.yielded_by _ _ c.in-None.is
    c.next.ensures.steps in
    named_all c.args.text.now (length at.yielded) at.nodes.items end.1 at.invariant
