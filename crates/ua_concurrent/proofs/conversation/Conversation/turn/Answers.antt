use Rattle.std.proofs.Common.{refl, sym, ◌∙◌}
use Rattle.ua_concurrent.proofs.Behind.{went_none}
use Rattle.ua_concurrent.proofs.Moving.{all_written, had_none, had_turned, had_writes, not_empty, stands_writes}
use Rattle.ua_concurrent.proofs.conversation.Conversation.turn.Goals as goal

pub returns-then-not-is_ready-clause-turn : goal.returns-then-not-is_ready-clause-turn
returns-then-not-is_ready-clause-turn g c = had_none g.S.Socket.seen c.args.self.now (sym c.is_ready.ensures ∙ c.if-not-is_ready.true)

pub returns-then-not-is_ready-clause-went : goal.returns-then-not-is_ready-clause-went
returns-then-not-is_ready-clause-went g c = λ es first state s.
    went_none g.S.Socket.seen g.A.Application.acts es first c.args.services.now c.args.application.now s.octets c.args.self.now state (s, refl)

pub returns-then-not-is_empty-clause-turn : goal.returns-then-not-is_empty-clause-turn
returns-then-not-is_empty-clause-turn g c =
    had_writes g.S.Socket.seen c.args.self.now c.write_on.new.self (sym c.is_ready.ensures ∙ c.if-not-is_ready.false)
    (not_empty c.waiting.result.now c.args.self.now.waiting c.if-not-is_empty.ensures c.waiting.ensures) c.write_on.ensures.writes

pub returns-then-not-is_empty-clause-went : goal.returns-then-not-is_empty-clause-went
returns-then-not-is_empty-clause-went g c = λ es first state s.
    went_none g.S.Socket.seen g.A.Application.acts es first c.args.services.now c.args.application.now s.octets c.write_on.new.self state
    (stands_writes g.S.Socket.seen es first c.args.services.now c.args.self.now c.write_on.new.self c.write_on.ensures.writes s)

pub returns-in-Going-clause-turn : goal.returns-in-Going-clause-turn
returns-in-Going-clause-turn g c =
    had_turned g.S.Socket.seen c.args.self.now c.go_on.new.self (sym c.is_ready.ensures ∙ c.if-not-is_ready.false)
    (all_written c.waiting.result.now c.args.self.now.waiting c.if-not-is_empty.ensures c.waiting.ensures) c.go_on.ensures.turned

pub returns-in-Closed-clause-went : goal.returns-in-Closed-clause-went
returns-in-Closed-clause-went g c = λ es first state. rw (← c.self.view_is) (λ s.
    went_none g.S.Socket.seen g.A.Application.acts es first c.args.services.now c.args.application.now s.octets _ state
    (record { octets = s.octets; written = s.written; come = s.come; carried = s.carried }, refl))

pub returns-in-Refused-clause-went : goal.returns-in-Refused-clause-went
returns-in-Refused-clause-went g c = λ es first state. rw (← c.self.view_is) (λ s.
    went_none g.S.Socket.seen g.A.Application.acts es first c.args.services.now c.args.application.now s.octets _ state
    (record { octets = s.octets; written = s.written; come = s.come; carried = s.carried }, refl))

pub returns-in-Starved-clause-went : goal.returns-in-Starved-clause-went
returns-in-Starved-clause-went g c = λ es first state. rw (← c.self.view_is) (λ s.
    went_none g.S.Socket.seen g.A.Application.acts es first c.args.services.now c.args.application.now s.octets _ state
    (record { octets = s.octets; written = s.written; come = s.come; carried = s.carried }, refl))
