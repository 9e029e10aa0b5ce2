use Rattle.std.proofs.Common.{ℕ, ◌∙◌, [], sym, subst, arith}
use Rattle.ua_poll.specs.Rounds.{Tells}
use Rattle.ua_poll.proofs.Telling.{goes_both, goes_told, served, tells_none}
use Rattle.ua_poll.proofs.serving.serve_at_once.Goals as goal

pub returns-in-Err-round : goal.returns-in-Err-round
returns-in-Err-round g c =
    let total = c.round.ensures.total ∙ c.loop-rounds.invariant.total in
    let within = c.round.ensures.within in
    served g.E.Endings.notes g.E.Application.acts c.args.asked.total c.round.new.self.over _ c.args.services.now _ _ _ _ (omega (arith, total, within))
    (goes_both g.E.Endings.notes g.E.Application.acts [] _ _ _ _ _ _ _ _ _ _ _ c.loop-rounds.invariant.goes (λ all s. c.round.ensures.goes all _ s))

pub returns-then-watched : goal.returns-then-watched
returns-then-watched g c =
    let total = c.round.ensures.total ∙ c.loop-rounds.invariant.total in
    let within = c.round.ensures.within in
    let reached = c.if-watched.true in
    served g.E.Endings.notes g.E.Application.acts c.args.asked.total c.round.new.self.over _ c.args.services.now _ _ _ _
    (omega (arith, total, within, reached))
    (goes_both g.E.Endings.notes g.E.Application.acts [] _ _ _ _ _ _ _ _ _ _ _ c.loop-rounds.invariant.goes (λ all s. c.round.ensures.goes all _ s))

pub loop-rounds-init : goal.loop-rounds-init
loop-rounds-init g c =
    let none = c.in-Ok-new.ensures.1 in
    record {
      goes = goes_told g.E.Endings.notes g.E.Application.acts [] c.args.services.now c.args.services.now 0 c.in-Ok-new.watched.over _ _ _ _
          (subst (λ (n : ℕ). Tells g.E.Endings.notes g.E.Application.acts 0 n c.args.endings.now c.args.endings.now) (sym none)
          (tells_none g.E.Endings.notes g.E.Application.acts 0 c.args.endings.now))
          (c.in-Ok.ensures.stand c.args.services.now);
      within = omega (arith, none);
      total = c.in-Ok-new.ensures.0;
    }

pub loop-rounds-preserved : goal.loop-rounds-preserved
loop-rounds-preserved g c = record {
  goes = goes_both g.E.Endings.notes g.E.Application.acts [] _ _ _ _ _ _ _ _ _ _ _ c.loop-rounds.invariant.goes (λ all s. c.round.ensures.goes all _ s);
  within = c.round.ensures.within;
  total = c.round.ensures.total ∙ c.loop-rounds.invariant.total;
}

pub returns : goal.returns
returns g c =
    let total = c.loop-rounds.invariant.total in
    let within = c.loop-rounds.invariant.within in
    served g.E.Endings.notes g.E.Application.acts c.args.asked.total c.loop-rounds.watched.over _ c.args.services.now _ _ _ _
    (omega (arith, total, within)) c.loop-rounds.invariant.goes
