use Rattle.ua_answers.proofs.PlainTokens.{null_put}
use Rattle.ua_answers.proofs.plain_object.put_plain_time.Goals as goal

pub returns-in-None : goal.returns-in-None
returns-in-None c = rw c.in-None.is (null_put c.null.result c.args.line.now c.null.new.self c.null.ensures)
