use Rattle.std.proofs.Common.{ℕ, subst, sym, ◌∙◌}
use Rattle.ua_poll.specs.Rounds.{Tells}
use Rattle.ua_poll.proofs.Telling.{tells_missed}
use Rattle.ua_poll.proofs.serving.Watched.take_next.Goals as goal

pub returns-in-Err-clause-told : goal.returns-in-Err-clause-told
returns-in-Err-clause-told g c =
    let same = c.pass_over.ensures.same.0 ∙ c.take.ensures.same.0 in
    subst (λ (n : ℕ). Tells g.E.Endings.notes g.E.Application.acts c.args.self.now.over n c.args.endings.now c.pass_over.new.endings) (sym same)
    (tells_missed g.E.Endings.notes g.E.Application.acts c.in-Err.why c.args.self.now.over c.args.endings.now c.pass_over.new.endings
    c.pass_over.ensures.told)
