use Rattle.ua_concurrent.proofs.Behind.{went_then}
use Rattle.ua_concurrent.proofs.Moving.{stepped_trans}
use Rattle.ua_concurrent.proofs.conversation.Conversation.step_on.Goals as goal

pub loop-preserved : goal.loop-preserved
loop-preserved g c =
    let can = c.can_step.ensures c.if-not-can_step.false in
    record {
      stepped = stepped_trans g.S.Socket.seen c.args.self.now c.loop.self c.step-in-loop.new.self can.0 c.loop.invariant.stepped
          c.step-in-loop.ensures.stepped;
      went = λ es first s. went_then g.S.Socket.seen g.A.Application.acts first (c.args.services.now, c.args.application.now)
          (c.loop.services, c.loop.application) (c.step-in-loop.new.services, c.step-in-loop.new.application) c.args.self.now c.loop.self
          c.step-in-loop.new.self (λ all. c.loop.invariant.went all first) can.0 c.step-in-loop.ensures.stepped.number_is
          (λ all. c.step-in-loop.ensures.went all first) es s;
    }
