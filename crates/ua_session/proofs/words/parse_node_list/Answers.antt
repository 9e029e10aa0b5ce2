use Rattle.std.proofs.lemmas.Result.{err_from_is_err_and}
use Rattle.ua_session.proofs.Naming.{nodes_more, nodes_refused}
use Rattle.ua_session.proofs.words.parse_node_list.Goals as goal

pub returns-in_err-node-clause-faults : goal.returns-in_err-node-clause-faults
returns-in_err-node-clause-faults c =
    let p = err_from_is_err_and c.from_residual-in_err-node.result c.from_residual-in_err-node.ensures.1 in
    rw (p.1, p.2) (nodes_refused (λ text. text.now) c.args.texts.now c.loop-text.text-index _ c.in_err-node.field-0.0 c.loop-text-test.true
    c.in_err-node.ensures)

pub loop-text-preserved : goal.loop-text-preserved
loop-text-preserved c =
    rw c.in-Ok.ensures.items
    (nodes_more (λ text. text.now) c.args.texts.now c.loop-text.nodes.items c.loop-text.text-index _ c.in_ok-node.node c.loop-text-test.true
    c.loop-text.invariant c.in_ok-node.ensures)
