use Rattle.std.proofs.Common.{refl}
use Rattle.ua_client.proofs.Answering.{put_answered, put_unrefused}
use Rattle.ua_client.proofs.reply.put_answer.Goals as goal

pub returns-then-answers-clause-put : goal.returns-then-answers-clause-put
returns-then-answers-clause-put c = put_answered _ _ c.put.result (c.if-answers.ensures.0 refl) c.put.ensures.ok

pub returns-then-answers-clause-refused : goal.returns-then-answers-clause-refused
returns-then-answers-clause-refused c = put_unrefused _ c.put.result c.put.ensures.memory
