use Rattle.ua_poll.proofs.Telling.{tells_over}
use Rattle.ua_poll.proofs.serving.Watched.release_at.Goals as goal

pub returns-in-Some-clause-told : goal.returns-in-Some-clause-told
returns-in-Some-clause-told g c = tells_over g.E.Endings.notes g.E.Application.acts c.in-Some.released.number c.in-Some.released.outcome _ _ _ _
    c.let_go.ensures.told c.let_go.ensures.one
