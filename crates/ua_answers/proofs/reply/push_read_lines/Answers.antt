use Rattle.std.proofs.Common.{◌<◌, length, arith}
use Rattle.ua_answers.specs.Answers.{read_line}
use Rattle.ua_answers.proofs.Pairs.{pairs_next}
use Rattle.ua_answers.proofs.reply.push_read_lines.Goals as goal

pub loop-index-preserved : goal.loop-index-preserved
loop-index-preserved c =
    let within : c.loop-index.index < length c.args.nodes.now = omega arith in
    pairs_next (read_line c.args.style) c.args.nodes.now c.args.answers.now c.loop-index.index c.index-nodes-index.result c.index-answers-index.result _ _ _
    within c.index-nodes-index.is c.loop-index-test.true c.index-answers-index.is
    c.loop-index.invariant c.in_ok-push_read_line.ensures
