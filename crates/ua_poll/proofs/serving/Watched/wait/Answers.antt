use Rattle.std.proofs.Common.{◌∙◌}
use Rattle.ua_poll.proofs.serving.Watched.wait.Goals as goal

pub loop-event-preserved : goal.loop-event-preserved
loop-event-preserved g c = record {
  stand = λ es first now s. c.tell.ensures.stand es first now (c.loop-event.invariant.stand es first now s);
  over = c.tell.ensures.same.0 ∙ c.loop-event.invariant.over;
  total = c.tell.ensures.same.1 ∙ c.loop-event.invariant.total;
}
