use Rattle.std.proofs.Common.{◌<◌, length, get_or, arith}
use Rattle.ua_builtin.specs.declared.status_code.StatusCode.{StatusCode}
use Rattle.ua_answers.specs.Answers.{write_line}
use Rattle.ua_answers.proofs.Pairs.{pairs_next, same_item}
use Rattle.ua_answers.proofs.reply.push_write_lines.Goals as goal

pub loop-index-preserved : goal.loop-index-preserved
loop-index-preserved c =
    let within : c.loop-index.index < length c.args.nodes.now = omega arith in
    let none : StatusCode = record { code = 0 } in
    pairs_next (write_line c.args.style) c.args.nodes.now c.args.answers.now c.loop-index.index c.index-nodes-index.result
    (get_or c.args.answers.now c.loop-index.index none) _ _ _ within c.index-nodes-index.is c.loop-index-test.true
    (same_item c.args.answers.now c.loop-index.index none c.loop-index-test.true) c.loop-index.invariant c.in_ok-push_write_line.ensures
