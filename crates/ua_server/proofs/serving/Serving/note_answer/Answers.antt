use Rattle.ua_server.proofs.Stepped.{noted-again, noted-first}
use Rattle.ua_server.proofs.serving.Serving.note_answer.Goals as goal

pub returns-then-self : goal.returns-then-self
returns-then-self c = noted-again c.args.self.now.server c.args.self.now.moment c.args.self.now.greeted c.args.self.now.written c.if-self.true

pub returns-else-self : goal.returns-else-self
returns-else-self c = noted-first c.args.self.now.server c.args.self.now.moment c.args.self.now.greeted c.args.self.now.written c.if-self.false
