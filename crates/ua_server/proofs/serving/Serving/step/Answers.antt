use Rattle.std.proofs.Common.{◌++◌, Ok, sym, subst}
use Rattle.ua_server.specs.Happening.{Happens}
use Rattle.ua_server.specs.ServingParts.{OfEventsBetween, Steps}
use Rattle.ua_server.specs.declared.serving.Serving.{Serving}
use Rattle.ua_server.proofs.Happened.{told-none, told-one}
use Rattle.ua_server.proofs.Lasting.{acted}
use Rattle.ua_server.proofs.Stepped.{steps-quiet, steps-saying, steps-broken}
use Rattle.ua_server.proofs.serving.Serving.step.Goals as goal

pub returns-in-Err-clause-steps : goal.returns-in-Err-clause-steps
returns-in-Err-clause-steps g c = λ limits channel first read written given k.
    let j = acted g.A.Application.changes c.args.self.now limits channel first read written given c.args.services.now c.act.new.services
    c.args.around.now.application.now
    c.act.new.self k c.act.ensures.changes c.act.ensures.nodes in
    steps-broken g.A.Application.changes g.M.Moments.gives g.W.Watch.notes c.args.around.now.moments.now c.moment-moment.new.moments limits channel first
    c.args.self.now
    c.moment-moment.new.self c.advance.new.self c.moment-moment.result c.args.piece.now read written given c.act.new.services c.advance.new.services
    c.act.new.self c.requires
    c.moment-moment.ensures.kept c.moment-moment.ensures.asked c.advance.ensures.limits c.advance.ensures.channel c.advance.result c.advance.ensures.now j.0 j.1
    c.args.around.now.watch.now c.in-Err.fault
    (record c.moment-moment.new.self { server = c.advance.new.self }) c.in-Err.is

pub returns-then-not-answered-clause-steps : goal.returns-then-not-answered-clause-steps
returns-then-not-answered-clause-steps g c = λ limits channel first read written given k.
    let j = acted g.A.Application.changes c.args.self.now limits channel first read written given c.args.services.now c.act.new.services
    c.args.around.now.application.now
    c.act.new.self k c.act.ensures.changes c.act.ensures.nodes in
    steps-quiet g.A.Application.changes g.M.Moments.gives g.W.Watch.notes c.args.around.now.moments.now c.moment-moment.new.moments limits channel first
    c.args.self.now
    c.moment-moment.new.self c.advance.new.self c.moment-moment.result c.args.piece.now read written given c.act.new.services c.advance.new.services
    c.act.new.self c.requires
    c.moment-moment.ensures.kept c.moment-moment.ensures.asked c.advance.ensures.limits c.advance.ensures.channel c.advance.result c.advance.ensures.now j.0 j.1
    c.args.around.now.watch.now c.in-Ok.found c.in-Ok.is c.if-not-answered.true

pub returns-then-not-answered-clause-progress : goal.returns-then-not-answered-clause-progress
returns-then-not-answered-clause-progress g c = c.in-Ok.ensures.progress

pub returns-clause-steps : goal.returns-clause-steps
returns-clause-steps g c = λ limits channel first read written given k.
    let j = acted g.A.Application.changes c.args.self.now limits channel first read written given c.args.services.now c.act.new.services
    c.args.around.now.application.now
    c.act.new.self k c.act.ensures.changes c.act.ensures.nodes in
    subst (λ (z : Serving). OfEventsBetween (Happens g.M.Moments.gives g.W.Watch.notes) (c.args.around.now.moments.now, c.args.around.now.watch.now)
    (c.moment-moment.new.moments, c.tell.new.watch)
    (λ events. Steps g.A.Application.changes (Ok c.in-Ok.found.step) z limits channel first c.args.piece.now read written (given ++ events)
    (c.advance.new.services, c.act.new.self))) (sym c.note_answer.ensures)
    (steps-saying g.A.Application.changes g.M.Moments.gives g.W.Watch.notes c.args.around.now.moments.now c.moment-moment.new.moments limits channel first
    c.args.self.now
    c.moment-moment.new.self c.advance.new.self c.moment-moment.result c.args.piece.now read written given c.act.new.services c.advance.new.services
    c.act.new.self c.requires
    c.moment-moment.ensures.kept c.moment-moment.ensures.asked c.advance.ensures.limits c.advance.ensures.channel c.advance.result c.advance.ensures.now j.0 j.1
    c.args.around.now.watch.now c.tell.new.watch c.in-Ok.found c.tell.ensures c.in-Ok.is c.if-not-answered.false)

pub returns-clause-progress : goal.returns-clause-progress
returns-clause-progress g c = c.in-Ok.ensures.progress

pub returns-in-Err-clause-told : goal.returns-in-Err-clause-told
returns-in-Err-clause-told g c = told-none g.W.Watch.notes c.args.around.now.watch.now

pub returns-then-not-answered-clause-told : goal.returns-then-not-answered-clause-told
returns-then-not-answered-clause-told g c = told-none g.W.Watch.notes c.args.around.now.watch.now

pub returns-clause-told : goal.returns-clause-told
returns-clause-told g c = told-one g.W.Watch.notes c.args.around.now.watch.now c.tell.new.watch c.in-Ok.found.request c.tell.ensures
