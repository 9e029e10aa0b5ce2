use Rattle.ua_pair.proofs.RestLines.{rest_line-end, rest_line-rest}
use Rattle.ua_pair.proofs.line.push_rest_line.Goals as goal

pub returns-then-left-eq0 : goal.returns-then-left-eq0
returns-then-left-eq0 c = rw (c.if-left-eq0.true, rest_line-end) c.push_ended.ensures

pub returns-else-left-eq0 : goal.returns-else-left-eq0
returns-else-left-eq0 c = rw (rest_line-rest c.args.place c.args.left c.if-left-eq0.false) c.push_ended-else-left-eq0.ensures
