use Rattle.std.proofs.Common.{arith, Option, ◌++◌, [], ℕ, Ok, Err, take, refl, ◌∙◌, ap, subst}
use Rattle.ua_channel.specs.Line.{one_more}
use Rattle.ua_server.specs.Happening.{Happens}
use Rattle.ua_server.specs.Serving.{LineFailed}
use Rattle.ua_server.specs.ServingParts.{Exchanged, Handles}
use Rattle.ua_server.specs.declared.step.End.{End}
use Rattle.ua_server.proofs.Handling.{served-nothing, read-failed, read-ended, read-too-long, served-more, served-end, served-fault}
use Rattle.ua_server.proofs.Happened.{told-none, told-more}
use Rattle.ua_server.proofs.serving.Serving.run.Goals as goal

pub loop-reads-init : goal.loop-reads-init
loop-reads-init g c = record {
  room = c.requires;
  so_far = λ limits channel first k. served-nothing g.A.Application.changes limits channel first g.M.Moments.gives g.W.Watch.notes
      (c.args.around.now.moments.now, c.args.around.now.watch.now) (g.L.Line.traffic c.args.line.now) c.args.self.now
      (c.args.services.now, c.args.around.now.application.now) k;
  same = refl;
  told = told-none g.W.Watch.notes c.args.around.now.watch.now;
  lent = (refl, refl, refl);
}

pub returns-in-Err-clause-serves : goal.returns-in-Err-clause-serves
returns-in-Err-clause-serves g c = λ limits channel first k.
    read-failed g.A.Application.changes limits channel first g.M.Moments.gives g.W.Watch.notes (c.args.around.now.moments.now, c.args.around.now.watch.now)
    (g.L.Line.traffic c.args.line.now) (g.L.Line.traffic c.loop-reads.line) (g.L.Line.traffic c.read.new.self) c.loop-reads._reads
    (c.loop-reads.around.moments.now, c.loop-reads.around.watch.now) c.loop-reads.self (c.loop-reads.services, c.loop-reads.around.application.now)
    c.in-Err.field-0 c.read.new.buffer
    (c.loop-reads.invariant.so_far limits channel first k) c.in-Err.ensures.octets

pub returns-in-Err-clause-failed : goal.returns-in-Err-clause-failed
returns-in-Err-clause-failed g c = c.in-Err.ensures.failed ∙ ap one_more c.loop-reads.invariant.same

pub returns-then-n-eq0-clause-serves : goal.returns-then-n-eq0-clause-serves
returns-then-n-eq0-clause-serves g c = λ limits channel first k.
    read-ended g.A.Application.changes limits channel first g.M.Moments.gives g.W.Watch.notes (c.args.around.now.moments.now, c.args.around.now.watch.now)
    (g.L.Line.traffic c.args.line.now) (g.L.Line.traffic c.loop-reads.line) (g.L.Line.traffic c.read.new.self) c.loop-reads._reads
    (c.loop-reads.around.moments.now, c.loop-reads.around.watch.now) c.loop-reads.self (c.loop-reads.services, c.loop-reads.around.application.now) c.in-Ok.n
    c.read.new.buffer
    c.finish.result (c.loop-reads.invariant.so_far limits channel first k) c.in-Ok.ensures.octets c.if-n-eq0.true (omega arith) c.finish.ensures

pub returns-then-n-eq0-clause-failed : goal.returns-then-n-eq0-clause-failed
returns-then-n-eq0-clause-failed g c = c.in-Ok.ensures.failed ∙ c.loop-reads.invariant.same

pub returns-in-Ok-Some-clause-serves : goal.returns-in-Ok-Some-clause-serves
returns-in-Ok-Some-clause-serves g c = λ limits channel first k.
    let so = (c.loop-reads.invariant.so_far limits channel first k) in
    served-end g.A.Application.changes limits channel first g.M.Moments.gives g.W.Watch.notes (c.args.around.now.moments.now, c.args.around.now.watch.now)
    (g.L.Line.traffic c.args.line.now) (g.L.Line.traffic c.loop-reads.line) (g.L.Line.traffic c.read.new.self) (g.L.Line.traffic c.handle.new.line)
    c.loop-reads._reads (c.loop-reads.around.moments.now, c.loop-reads.around.watch.now) (c.handle.new.around.moments.now, c.handle.new.around.watch.now)
    c.loop-reads.self c.handle.new.self
    (c.loop-reads.services, c.loop-reads.around.application.now) (c.handle.new.services, c.handle.new.around.application.now) c.in-Ok.n c.read.new.buffer so
    c.in-Ok.ensures.octets c.in-Ok-Some.end
    (subst (λ (o : Option End). Exchanged (Happens g.M.Moments.gives g.W.Watch.notes) (c.loop-reads.around.moments.now, c.loop-reads.around.watch.now)
    (c.handle.new.around.moments.now, c.handle.new.around.watch.now) [] (g.L.Line.traffic c.read.new.self) (g.L.Line.traffic c.handle.new.line)
    (λ more ts. Handles g.A.Application.changes (Ok o) c.handle.new.self limits channel first (so.read ++ take c.in-Ok.n c.read.new.buffer)
    (so.exchanged.written ++ more) (so.exchanged.ticks ++ ts) (c.handle.new.services, c.handle.new.around.application.now))) c.in-Ok-Some.field-0-is
    (c.in-Ok-Some.ensures.handles limits channel first so.read so.exchanged.written so.exchanged.ticks so.exchanged.holds))

pub returns-in-Ok-Some-clause-failed : goal.returns-in-Ok-Some-clause-failed
returns-in-Ok-Some-clause-failed g c = c.in-Ok-Some.ensures.failed ∙ (c.in-Ok.ensures.failed ∙ c.loop-reads.invariant.same)

pub returns-in-Err-handle-clause-serves : goal.returns-in-Err-handle-clause-serves
returns-in-Err-handle-clause-serves g c = λ limits channel first k.
    let so = (c.loop-reads.invariant.so_far limits channel first k) in
    served-fault g.A.Application.changes limits channel first g.M.Moments.gives g.W.Watch.notes (c.args.around.now.moments.now, c.args.around.now.watch.now)
    (g.L.Line.traffic c.args.line.now) (g.L.Line.traffic c.loop-reads.line) (g.L.Line.traffic c.read.new.self) (g.L.Line.traffic c.handle.new.line)
    c.loop-reads._reads (c.loop-reads.around.moments.now, c.loop-reads.around.watch.now) (c.handle.new.around.moments.now, c.handle.new.around.watch.now)
    c.loop-reads.self c.handle.new.self
    (c.loop-reads.services, c.loop-reads.around.application.now) (c.handle.new.services, c.handle.new.around.application.now) c.in-Ok.n c.read.new.buffer so
    c.in-Ok.ensures.octets c.in-Err-handle.fault
    (c.in-Err-handle.ensures.handles limits channel first so.read so.exchanged.written so.exchanged.ticks so.exchanged.holds)

pub returns-in-Err-handle-clause-failed : goal.returns-in-Err-handle-clause-failed
returns-in-Err-handle-clause-failed g c = subst (λ (n : ℕ). LineFailed {A = End} n (Err c.in-Err-handle.fault) (g.L.Line.failures c.handle.new.line))
    (c.in-Ok.ensures.failed ∙ c.loop-reads.invariant.same) c.in-Err-handle.ensures.failed

pub loop-reads-preserved : goal.loop-reads-preserved
loop-reads-preserved g c = record {
  room = omega (arith, c.in-Ok.ensures.within);
  so_far = λ limits channel first k.
      let so = (c.loop-reads.invariant.so_far limits channel first k) in
      served-more g.A.Application.changes limits channel first g.M.Moments.gives g.W.Watch.notes (c.args.around.now.moments.now, c.args.around.now.watch.now)
      (g.L.Line.traffic c.args.line.now) (g.L.Line.traffic c.loop-reads.line) (g.L.Line.traffic c.read.new.self) (g.L.Line.traffic c.handle.new.line)
      c.loop-reads._reads (c.loop-reads.around.moments.now, c.loop-reads.around.watch.now) (c.handle.new.around.moments.now, c.handle.new.around.watch.now)
      c.loop-reads.self c.handle.new.self
      (c.loop-reads.services, c.loop-reads.around.application.now) (c.handle.new.services, c.handle.new.around.application.now) c.in-Ok.n c.read.new.buffer so
      c.in-Ok.ensures.octets (omega arith) c.in-Ok.ensures.within
      (subst (λ (o : Option End). Exchanged (Happens g.M.Moments.gives g.W.Watch.notes) (c.loop-reads.around.moments.now, c.loop-reads.around.watch.now)
      (c.handle.new.around.moments.now, c.handle.new.around.watch.now) [] (g.L.Line.traffic c.read.new.self) (g.L.Line.traffic c.handle.new.line)
      (λ more ts. Handles g.A.Application.changes (Ok o) c.handle.new.self limits channel first (so.read ++ take c.in-Ok.n c.read.new.buffer)
      (so.exchanged.written ++ more) (so.exchanged.ticks ++ ts) (c.handle.new.services, c.handle.new.around.application.now))) c.in-Ok-None.field-0-is
      (c.in-Ok-None.ensures.handles limits channel first so.read so.exchanged.written so.exchanged.ticks so.exchanged.holds));
  same = c.in-Ok-None.ensures.failed ∙ (c.in-Ok.ensures.failed ∙ c.loop-reads.invariant.same);
  told = told-more g.W.Watch.notes c.args.around.now.watch.now c.loop-reads.around.watch.now c.handle.new.around.watch.now c.loop-reads.invariant.told
      c.in-Ok-None.ensures.told;
  lent =
      let so = c.loop-reads.invariant.lent in
      let more = c.in-Ok-None.ensures.lent in
      (more.0 ∙ so.0, more.1 ∙ so.1, more.2 ∙ so.2);
}

pub returns-clause-serves : goal.returns-clause-serves
returns-clause-serves g c = λ limits channel first k.
    read-too-long g.A.Application.changes limits channel first g.M.Moments.gives g.W.Watch.notes (c.args.around.now.moments.now, c.args.around.now.watch.now)
    (g.L.Line.traffic c.args.line.now) (g.L.Line.traffic c.loop-reads.line) c.loop-reads._reads (c.loop-reads.around.moments.now, c.loop-reads.around.watch.now)
    c.loop-reads.self
    (c.loop-reads.services, c.loop-reads.around.application.now) c.loop-reads-test.false (c.loop-reads.invariant.so_far limits channel first k)

pub returns-clause-failed : goal.returns-clause-failed
returns-clause-failed g c = c.loop-reads.invariant.same

pub returns-in-Err-clause-told : goal.returns-in-Err-clause-told
returns-in-Err-clause-told g c = c.loop-reads.invariant.told

pub returns-then-n-eq0-clause-told : goal.returns-then-n-eq0-clause-told
returns-then-n-eq0-clause-told g c = c.loop-reads.invariant.told

pub returns-in-Ok-Some-clause-told : goal.returns-in-Ok-Some-clause-told
returns-in-Ok-Some-clause-told g c = told-more g.W.Watch.notes c.args.around.now.watch.now c.loop-reads.around.watch.now c.handle.new.around.watch.now
    c.loop-reads.invariant.told
    c.in-Ok-Some.ensures.told

pub returns-in-Err-handle-clause-told : goal.returns-in-Err-handle-clause-told
returns-in-Err-handle-clause-told g c = told-more g.W.Watch.notes c.args.around.now.watch.now c.loop-reads.around.watch.now c.handle.new.around.watch.now
    c.loop-reads.invariant.told
    c.in-Err-handle.ensures.told

pub returns-clause-told : goal.returns-clause-told
returns-clause-told g c = c.loop-reads.invariant.told
