use Rattle.std.proofs.Common.{arith, refl}
use Rattle.ua_server.specs.State.{begun}
use Rattle.ua_server.proofs.Happened.{told-none}
use Rattle.ua_server.proofs.Handling.{serves-nothing}
use Rattle.ua_server.proofs.Lasting.{keeps-first}
use Rattle.ua_server.proofs.serving.serve_around.Goals as goal

pub run-requires : goal.run-requires
run-requires g c =
    let room = c.in-Ok.ensures in
    rw c.deref_mut.ensures.value (omega (arith, room))

pub returns-in-Ok-clause-serves : goal.returns-in-Ok-clause-serves
returns-in-Ok-clause-serves g c =
    c.run.ensures.serves c.args.terms.limits c.args.terms.channel_id (begun c.args.services.now, c.args.around.now.application.now)
    (rw c.begin.ensures (keeps-first g.A.Application.changes c.new-serving.result c.args.terms.limits c.args.terms.channel_id
    (begun c.args.services.now, c.args.around.now.application.now)
    c.new-serving.ensures))

pub returns-in-Ok-clause-failed : goal.returns-in-Ok-clause-failed
returns-in-Ok-clause-failed g c = c.run.ensures.failed

pub returns-clause-serves : goal.returns-clause-serves
returns-clause-serves g c =
    serves-nothing g.A.Application.changes c.args.terms.limits c.args.terms.channel_id (begun c.args.services.now, c.args.around.now.application.now)
    g.M.Moments.gives g.W.Watch.notes
    (c.args.around.now.moments.now, c.args.around.now.watch.now) (g.L.Line.traffic c.args.line.now) c.new-serving.result
    (c.begin.new.self, c.args.around.now.application.now)
    (rw c.begin.ensures (keeps-first g.A.Application.changes c.new-serving.result c.args.terms.limits c.args.terms.channel_id
    (begun c.args.services.now, c.args.around.now.application.now)
    c.new-serving.ensures))

pub returns-clause-failed : goal.returns-clause-failed
returns-clause-failed g c = refl

pub returns-in-Ok-clause-told : goal.returns-in-Ok-clause-told
returns-in-Ok-clause-told g c = c.run.ensures.told

pub returns-clause-told : goal.returns-clause-told
returns-clause-told g c = told-none g.W.Watch.notes c.args.around.now.watch.now
