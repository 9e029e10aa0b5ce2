use Rattle.ua_opening.proofs.MessageRead.{answer_answers}
use Rattle.ua_opening.proofs.open.read_open_response.Goals as goal

pub returns-clause-read : goal.returns-clause-read
returns-clause-read g c = answer_answers (g.S.Source.octets c.args.src.now) c.read_answer.result c.read_answer.ensures.found c.read_answer.ensures.none
