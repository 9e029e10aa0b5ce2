use Rattle.std.proofs.Common.{◌<◌, length, arith, string_bytes, take}
use Rattle.ua_answers.specs.PlainAnswers.{IsPlainRead}
use Rattle.ua_answers.proofs.PlainPairs.{pairs_next, pairs_none}
use Rattle.ua_answers.proofs.plain_reply.push_plain_read_lines.Goals as goal

pub loop-index-init : goal.loop-index-init
loop-index-init c = pairs_none (IsPlainRead c.args.style) (take 0 c.args.answers.now) (string_bytes c.args.out.now)

pub loop-index-preserved : goal.loop-index-preserved
loop-index-preserved c =
    let within : c.loop-index.index < length c.args.nodes.now = omega arith in
    pairs_next (IsPlainRead c.args.style) c.args.nodes.now c.args.answers.now c.loop-index.index c.index-nodes-index.result c.index-answers-index.result _ _ _
    within c.index-nodes-index.is c.loop-index-test.true
    c.index-answers-index.is c.loop-index.invariant c.in_ok-push_plain_read_line.ensures
