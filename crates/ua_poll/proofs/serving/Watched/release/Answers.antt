use Rattle.std.proofs.Common.{◌∙◌}
use Rattle.ua_poll.proofs.Telling.{tells_both}
use Rattle.ua_poll.proofs.serving.Watched.release.Goals as goal

pub returns-then-not-release_at-clause-told : goal.returns-then-not-release_at-clause-told
returns-then-not-release_at-clause-told g c = tells_both g.E.Endings.notes g.E.Application.acts _ _ _ _ _ _ c.loop-place.invariant.told
    c.release_at.ensures.told

pub loop-place-preserved : goal.loop-place-preserved
loop-place-preserved g c = record {
  stand = λ es first now s. c.release_at.ensures.stand es first now (c.loop-place.invariant.stand es first now s);
  told = tells_both g.E.Endings.notes g.E.Application.acts _ _ _ _ _ _ c.loop-place.invariant.told c.release_at.ensures.told;
  within = c.release_at.ensures.within;
  total = c.release_at.ensures.total ∙ c.loop-place.invariant.total;
}

pub returns-then-not-release_at-clause-stand : goal.returns-then-not-release_at-clause-stand
returns-then-not-release_at-clause-stand g c = λ es first now s. c.release_at.ensures.stand es first now (c.loop-place.invariant.stand es first now s)
