use Rattle.std.proofs.Common.{arith, ◌++◌, ℕ, Option, Err, take, refl, ◌∙◌, subst}
use Rattle.ua_server.specs.Happening.{Happens}
use Rattle.ua_server.specs.Serving.{LineFailed}
use Rattle.ua_server.specs.declared.step.End.{End}
use Rattle.ua_server.proofs.Handling.{handled-nothing, handled-more, handled-end, handled-fault, handled-all, turns-fewer}
use Rattle.ua_server.proofs.Happened.{told-none, told-more}
use Rattle.ua_channel.proofs.Moving.{within-piece}
use Rattle.ua_server.proofs.serving.Serving.handle.Goals as goal

pub loop-taken-init : goal.loop-taken-init
loop-taken-init g c = record {
  within = omega arith;
  so_far = λ limits channel first read written given k. handled-nothing g.A.Application.changes limits channel first (Happens g.M.Moments.gives g.W.Watch.notes)
      (c.args.around.now.moments.now, c.args.around.now.watch.now) (g.L.Line.traffic c.args.line.now) c.args.self.now
      (c.args.services.now, c.args.around.now.application.now) c.args.piece.now
      read written given k;
  same = refl;
  told = told-none g.W.Watch.notes c.args.around.now.watch.now;
  lent = (refl, refl, refl);
}

pub returns-in-Err-clause-handles : goal.returns-in-Err-clause-handles
returns-in-Err-clause-handles g c = λ limits channel first read written given k.
    let so = c.loop-taken.invariant.so_far limits channel first read written given k in
    handled-fault g.A.Application.changes limits channel first (Happens g.M.Moments.gives g.W.Watch.notes)
    (c.args.around.now.moments.now, c.args.around.now.watch.now)
    (g.L.Line.traffic c.args.line.now) c.args.self.now (c.args.services.now, c.args.around.now.application.now) c.args.piece.now c.loop-taken.taken
    (c.loop-taken.around.moments.now, c.loop-taken.around.watch.now) (c.turn.new.around.moments.now, c.turn.new.around.watch.now)
    (g.L.Line.traffic c.loop-taken.line)
    (g.L.Line.traffic c.turn.new.line) c.loop-taken.self c.turn.new.self (c.loop-taken.services, c.loop-taken.around.application.now)
    (c.turn.new.services, c.turn.new.around.application.now) read written given so c.in-Err.fault
    (c.in-Err.ensures.turns limits channel first (read ++ take c.loop-taken.taken c.args.piece.now) (written ++ so.written) (given ++ so.ticks) so.holds)

pub returns-in-Err-clause-failed : goal.returns-in-Err-clause-failed
returns-in-Err-clause-failed g c = subst (λ (n : ℕ). LineFailed {A = Option End} n (Err c.in-Err.fault) (g.L.Line.failures c.turn.new.line))
    c.loop-taken.invariant.same c.in-Err.ensures.failed

pub returns-in-Some-clause-handles : goal.returns-in-Some-clause-handles
returns-in-Some-clause-handles g c = λ limits channel first read written given k.
    let so = c.loop-taken.invariant.so_far limits channel first read written given k in
    handled-end g.A.Application.changes limits channel first (Happens g.M.Moments.gives g.W.Watch.notes)
    (c.args.around.now.moments.now, c.args.around.now.watch.now)
    (g.L.Line.traffic c.args.line.now) c.args.self.now (c.args.services.now, c.args.around.now.application.now) c.args.piece.now c.loop-taken.taken
    (c.loop-taken.around.moments.now, c.loop-taken.around.watch.now) (c.turn.new.around.moments.now, c.turn.new.around.watch.now)
    (g.L.Line.traffic c.loop-taken.line)
    (g.L.Line.traffic c.turn.new.line) c.loop-taken.self c.turn.new.self (c.loop-taken.services, c.loop-taken.around.application.now)
    (c.turn.new.services, c.turn.new.around.application.now) read written given so c.in-Ok.turn.size c.in-Ok.turn.outcome c.in-Some.end c.in-Some.is
    (c.in-Ok.ensures.turns limits channel first (read ++ take c.loop-taken.taken c.args.piece.now) (written ++ so.written) (given ++ so.ticks) so.holds)

pub returns-in-Some-clause-failed : goal.returns-in-Some-clause-failed
returns-in-Some-clause-failed g c = c.in-Ok.ensures.failed ∙ c.loop-taken.invariant.same

pub loop-taken-smaller : goal.loop-taken-smaller
loop-taken-smaller g c = turns-fewer c.args.piece.now c.loop-taken.taken c.in-Ok.turn.size c.loop-taken-test.true c.in-Ok.ensures.progress.0
    (c.in-Ok.ensures.progress.1 c.in-None.is)

pub loop-taken-preserved : goal.loop-taken-preserved
loop-taken-preserved g c = record {
  within = within-piece c.args.piece.now c.loop-taken.taken c.in-Ok.turn.size c.loop-taken.invariant.within c.in-Ok.ensures.progress.0;
  so_far = λ limits channel first read written given k.
      let so = c.loop-taken.invariant.so_far limits channel first read written given k in
      handled-more g.A.Application.changes limits channel first (Happens g.M.Moments.gives g.W.Watch.notes)
      (c.args.around.now.moments.now, c.args.around.now.watch.now)
      (g.L.Line.traffic c.args.line.now) c.args.self.now (c.args.services.now, c.args.around.now.application.now) c.args.piece.now c.loop-taken.taken
      (c.loop-taken.around.moments.now, c.loop-taken.around.watch.now) (c.turn.new.around.moments.now, c.turn.new.around.watch.now)
      (g.L.Line.traffic c.loop-taken.line)
      (g.L.Line.traffic c.turn.new.line) c.loop-taken.self c.turn.new.self (c.loop-taken.services, c.loop-taken.around.application.now)
      (c.turn.new.services, c.turn.new.around.application.now) read written given so c.in-Ok.turn.size c.in-Ok.turn.outcome c.in-None.is
      (c.in-Ok.ensures.turns limits channel first (read ++ take c.loop-taken.taken c.args.piece.now) (written ++ so.written) (given ++ so.ticks) so.holds);
  same = c.in-Ok.ensures.failed ∙ c.loop-taken.invariant.same;
  told = told-more g.W.Watch.notes c.args.around.now.watch.now c.loop-taken.around.watch.now c.turn.new.around.watch.now c.loop-taken.invariant.told
      c.in-Ok.ensures.told;
  lent =
      let so = c.loop-taken.invariant.lent in
      let more = c.in-Ok.ensures.lent in
      (more.0 ∙ so.0, more.1 ∙ so.1, more.2 ∙ so.2);
}

pub returns-clause-handles : goal.returns-clause-handles
returns-clause-handles g c = λ limits channel first read written given k.
    let so = c.loop-taken.invariant.so_far limits channel first read written given k in
    handled-all g.A.Application.changes limits channel first (Happens g.M.Moments.gives g.W.Watch.notes)
    (c.args.around.now.moments.now, c.args.around.now.watch.now)
    (g.L.Line.traffic c.args.line.now) c.args.self.now (c.args.services.now, c.args.around.now.application.now) c.args.piece.now c.loop-taken.taken
    (c.loop-taken.around.moments.now, c.loop-taken.around.watch.now) (c.loop-taken.around.moments.now, c.loop-taken.around.watch.now)
    (g.L.Line.traffic c.loop-taken.line)
    (g.L.Line.traffic c.loop-taken.line) c.loop-taken.self c.loop-taken.self (c.loop-taken.services, c.loop-taken.around.application.now)
    (c.loop-taken.services, c.loop-taken.around.application.now) read written given so c.loop-taken.invariant.within c.loop-taken-test.false

pub returns-clause-failed : goal.returns-clause-failed
returns-clause-failed g c = c.loop-taken.invariant.same

pub returns-in-Err-clause-told : goal.returns-in-Err-clause-told
returns-in-Err-clause-told g c = told-more g.W.Watch.notes c.args.around.now.watch.now c.loop-taken.around.watch.now c.turn.new.around.watch.now
    c.loop-taken.invariant.told
    c.in-Err.ensures.told

pub returns-in-Some-clause-told : goal.returns-in-Some-clause-told
returns-in-Some-clause-told g c = told-more g.W.Watch.notes c.args.around.now.watch.now c.loop-taken.around.watch.now c.turn.new.around.watch.now
    c.loop-taken.invariant.told
    c.in-Ok.ensures.told

pub returns-clause-told : goal.returns-clause-told
returns-clause-told g c = c.loop-taken.invariant.told
