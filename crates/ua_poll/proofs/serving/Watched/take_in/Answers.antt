use Rattle.std.proofs.Common.{◌∙◌}
use Rattle.ua_poll.proofs.Telling.{tells_both}
use Rattle.ua_poll.proofs.serving.Watched.take_in.Goals as goal

pub returns-then-not-take_next-clause-told : goal.returns-then-not-take_next-clause-told
returns-then-not-take_next-clause-told g c = tells_both g.E.Endings.notes g.E.Application.acts _ _ _ _ _ _ c.loop-peers.invariant.told
    c.take_next.ensures.told

pub loop-peers-preserved : goal.loop-peers-preserved
loop-peers-preserved g c = record {
  stand = λ es first now s. c.take_next.ensures.stand es first now (c.loop-peers.invariant.stand es first now s);
  told = tells_both g.E.Endings.notes g.E.Application.acts _ _ _ _ _ _ c.loop-peers.invariant.told c.take_next.ensures.told;
  same = (c.take_next.ensures.same.0 ∙ c.loop-peers.invariant.same.0, c.take_next.ensures.same.1 ∙ c.loop-peers.invariant.same.1);
}

pub returns-then-not-take_next-clause-stand : goal.returns-then-not-take_next-clause-stand
returns-then-not-take_next-clause-stand g c = λ es first now s. c.take_next.ensures.stand es first now (c.loop-peers.invariant.stand es first now s)
