use Rattle.ua_concurrent.proofs.Behind.{went_on}
use Rattle.ua_concurrent.proofs.Moving.{answered_stepped, answered_wrote, not_empty, number_writes, phase_writes, stands_writes}
use Rattle.ua_concurrent.proofs.conversation.Conversation.answer.Goals as goal

pub returns-then-not-is_empty-clause-answered : goal.returns-then-not-is_empty-clause-answered
returns-then-not-is_empty-clause-answered g c =
    answered_wrote g.S.Socket.seen c.args.self.now c.step_on.new.self c.write_on.new.self c.requires.still
    (not_empty c.waiting.result.now c.step_on.new.self.waiting c.if-not-is_empty.ensures c.waiting.ensures) c.step_on.ensures.stepped
    c.write_on.ensures.writes

pub returns-then-not-is_empty-clause-went : goal.returns-then-not-is_empty-clause-went
returns-then-not-is_empty-clause-went g c = λ es first s.
    let writes = c.write_on.ensures.writes in
    went_on g.S.Socket.seen g.A.Application.acts es first (c.args.services.now, c.args.application.now)
    (c.step_on.new.services, c.step_on.new.application) s.octets c.step_on.new.self c.write_on.new.self
    (number_writes g.S.Socket.seen c.step_on.new.self c.write_on.new.self writes)
    (phase_writes g.S.Socket.seen c.step_on.new.self c.write_on.new.self writes)
    (λ all. stands_writes g.S.Socket.seen all first c.step_on.new.services c.step_on.new.self c.write_on.new.self writes)
    (c.step_on.ensures.went es first s)

pub returns-else-not-is_empty-clause-answered : goal.returns-else-not-is_empty-clause-answered
returns-else-not-is_empty-clause-answered g c = answered_stepped g.S.Socket.seen c.args.self.now c.step_on.new.self c.requires.still c.step_on.ensures.stepped
