use Rattle.ua_client.proofs.Answering.{puts_response, response_faults}
use Rattle.ua_client.proofs.reply.put_answer_from.Goals as goal

pub returns-in-Ok-clause-puts : goal.returns-in-Ok-clause-puts
returns-in-Ok-clause-puts g c =
    puts_response c.args.kind (g.S.Source.octets c.args.src.now) c.in-Ok.response c.args.place c.args.slots.now.slots c.put_answer.new.slots.slots
    c.put_answer.result c.bodies_of_responses_differ.ensures c.in-Ok.ensures.found c.put_answer.ensures.put c.put_answer.ensures.refused
    c.put_answer.ensures.err

pub returns-in-Ok-clause-faults : goal.returns-in-Ok-clause-faults
returns-in-Ok-clause-faults g c = response_faults _ c.put_answer.result c.put_answer.ensures.refused
