use Rattle.std.proofs.Common.{ℕ, List, length, refl}
use Rattle.ua_server.specs.Happening.{Happens}
use Rattle.ua_server.specs.ServingParts.{sum_up_to_greatest}
use Rattle.ua_server.specs.declared.serving.Serving.{Serving}
use Rattle.ua_server.proofs.Turning.{turn-said, turn-unsaid, turn-broken}
use Rattle.ua_server.proofs.serving.Serving.turn.Goals as goal

pub returns-in-Err-clause-turns : goal.returns-in-Err-clause-turns
returns-in-Err-clause-turns g c = λ limits channel first read written given k.
    turn-broken g.A.Application.changes limits channel first (Happens g.M.Moments.gives g.W.Watch.notes)
    (c.args.around.now.moments.now, c.args.around.now.watch.now)
    (c.step.new.around.moments.now, c.step.new.around.watch.now) (g.L.Line.traffic c.args.line.now) (g.L.Line.traffic c.args.line.now) c.args.piece.now read
    written given
    (c.step.new.services, c.step.new.around.application.now) c.in-Err.field-0 c.step.new.self (c.in-Err.ensures.steps limits channel first read written given k)

pub returns-in-Err-clause-failed : goal.returns-in-Err-clause-failed
returns-in-Err-clause-failed g c = refl

pub returns-in-Ok-say-clause-turns : goal.returns-in-Ok-say-clause-turns
returns-in-Ok-say-clause-turns g c = λ limits channel first read written given k.
    let counted_so : List ℕ → Serving = λ o. record c.step.new.self { written = sum_up_to_greatest c.step.new.self.written (length o) } in
    turn-said g.A.Application.changes limits channel first (Happens g.M.Moments.gives g.W.Watch.notes)
    (c.args.around.now.moments.now, c.args.around.now.watch.now)
    (c.step.new.around.moments.now, c.step.new.around.watch.now) (g.L.Line.traffic c.args.line.now) (g.L.Line.traffic c.say.new.line) c.args.piece.now read
    written given
    (c.step.new.services, c.step.new.around.application.now) c.in-Ok.step c.step.new.self c.say.new.self
    (c.in-Ok.ensures.steps limits channel first read written given k)
    (rw (← c.deref.ensures.value) c.in-Ok-say.ensures.says.0)
    (rw (← c.deref.ensures.value) c.in-Ok-say.ensures.says.1)

pub returns-in-Ok-say-clause-progress : goal.returns-in-Ok-say-clause-progress
returns-in-Ok-say-clause-progress g c = c.in-Ok.ensures.progress

pub returns-in-Ok-say-clause-failed : goal.returns-in-Ok-say-clause-failed
returns-in-Ok-say-clause-failed g c = c.in-Ok-say.ensures.failed

pub returns-clause-turns : goal.returns-clause-turns
returns-clause-turns g c = λ limits channel first read written given k.
    turn-unsaid g.A.Application.changes limits channel first (Happens g.M.Moments.gives g.W.Watch.notes)
    (c.args.around.now.moments.now, c.args.around.now.watch.now)
    (c.step.new.around.moments.now, c.step.new.around.watch.now) (g.L.Line.traffic c.args.line.now) (g.L.Line.traffic c.say.new.line) c.args.piece.now read
    written given
    (c.step.new.services, c.step.new.around.application.now) c.in-Ok.step c.step.new.self c.say.new.self c.in-Err-say.fault
    (c.in-Ok.ensures.steps limits channel first read written given k)
    (rw (← c.deref.ensures.value) c.in-Err-say.ensures.says)

pub returns-clause-failed : goal.returns-clause-failed
returns-clause-failed g c = c.in-Err-say.ensures.failed

pub returns-in-Err-clause-told : goal.returns-in-Err-clause-told
returns-in-Err-clause-told g c = c.in-Err.ensures.told

pub returns-in-Ok-say-clause-told : goal.returns-in-Ok-say-clause-told
returns-in-Ok-say-clause-told g c = c.in-Ok.ensures.told

pub returns-clause-told : goal.returns-clause-told
returns-clause-told g c = c.in-Ok.ensures.told
