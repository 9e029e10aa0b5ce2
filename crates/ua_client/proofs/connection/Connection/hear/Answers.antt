use Rattle.std.proofs.Common.{Option, Ok, refl, sym, ◌∙◌, subst}
use Rattle.std.proofs.lemmas.Result.{err_from_is_err_and}
use Rattle.ua_channel.specs.declared.client.event.ClientEvent.{ClientEvent}
use Rattle.ua_client.specs.Hearing.{Listens}
use Rattle.ua_client.proofs.Hearings.{quiet-nothing, quiet-then, quiet-less, hears-read, hears-failure, hears-event, channel-failures, none-of}
use Rattle.ua_client.proofs.connection.Connection.hear.Goals as goal

pub loop-self-init : goal.loop-self-init
loop-self-init g c = record { quiet = quiet-nothing c.args.self.now (g.L.Line.traffic c.args.line.now) c.args.reads.now; same = refl }

pub returns-in_err-fill-clause-hears : goal.returns-in_err-fill-clause-hears
returns-in_err-fill-clause-hears g c =
    let p = err_from_is_err_and c.from_residual.result c.from_residual.ensures.1 in
    rw (p.1, p.2) (hears-read c.args.self.now c.loop-self.self c.fill.new.self (g.L.Line.traffic c.args.line.now) (g.L.Line.traffic c.loop-self.line)
    (g.L.Line.traffic c.fill.new.line)
    c.args.reads.now c.loop-self.reads c.fill.new.reads c.loop-self.invariant.quiet c.args.moment c.in_err-fill.field-0.0 c.in_err-fill.ensures.fills)

pub returns-in_err-event-clause-hears : goal.returns-in_err-event-clause-hears
returns-in_err-event-clause-hears g c =
    let p = err_from_is_err_and c.from_residual-in_err-event.result c.from_residual-in_err-event.ensures.1 in
    rw (p.1, p.2) (hears-failure c.args.self.now c.loop-self.self c.fill.new.self (g.L.Line.traffic c.args.line.now) (g.L.Line.traffic c.loop-self.line)
    (g.L.Line.traffic c.fill.new.line)
    c.args.reads.now c.loop-self.reads c.fill.new.reads c.loop-self.invariant.quiet c.in_ok-fill.field-0 c.in_ok-fill.ensures.fills c.listen.new.self
    c.args.moment c.in_err-event.field-0.0 c.in_err-event.ensures.listens)

pub returns-in_err-event-clause-failed : goal.returns-in_err-event-clause-failed
returns-in_err-event-clause-failed g c =
    let p = err_from_is_err_and c.from_residual-in_err-event.result c.from_residual-in_err-event.ensures.1 in
    rw (p.1, p.2)
    (◌∙◌ {b = g.L.Line.failures c.loop-self.line} c.in_ok-fill.ensures.failed (◌∙◌ {b = g.L.Line.failures c.args.line.now} c.loop-self.invariant.same
    (sym (channel-failures ClientEvent c.in_err-event.field-0.0 c.in_err-event.ensures.listens.faults (g.L.Line.failures c.args.line.now)))))

pub returns-in-Some-clause-hears : goal.returns-in-Some-clause-hears
returns-in-Some-clause-hears g c =
    hears-event c.args.self.now c.loop-self.self c.fill.new.self (g.L.Line.traffic c.args.line.now) (g.L.Line.traffic c.loop-self.line)
    (g.L.Line.traffic c.fill.new.line)
    c.args.reads.now c.loop-self.reads c.fill.new.reads c.loop-self.invariant.quiet c.in_ok-fill.field-0 c.in_ok-fill.ensures.fills c.listen.new.self
    c.args.moment c.in-Some.event
    (subst (λ (o : Option ClientEvent). Listens c.fill.new.self c.listen.new.self c.args.moment (Ok o)) c.in-Some.is c.in_ok-event.ensures.listens)

pub loop-self-preserved : goal.loop-self-preserved
loop-self-preserved g c = record {
  quiet = quiet-then c.args.self.now c.loop-self.self c.fill.new.self (g.L.Line.traffic c.args.line.now) (g.L.Line.traffic c.loop-self.line)
      (g.L.Line.traffic c.fill.new.line)
      c.args.reads.now c.loop-self.reads c.fill.new.reads c.loop-self.invariant.quiet c.in_ok-fill.field-0 c.in_ok-fill.ensures.fills c.listen.new.self
      c.args.moment
      (subst (λ (o : Option ClientEvent). Listens c.fill.new.self c.listen.new.self c.args.moment (Ok o)) (none-of c.in_ok-event.field-0 c.in_default.not-Some)
      c.in_ok-event.ensures.listens);
  same = ◌∙◌ {b = g.L.Line.failures c.loop-self.line} c.in_ok-fill.ensures.failed c.loop-self.invariant.same;
}

pub loop-self-smaller : goal.loop-self-smaller
loop-self-smaller g c =
    quiet-less c.args.self.now c.loop-self.self c.fill.new.self (g.L.Line.traffic c.args.line.now) (g.L.Line.traffic c.loop-self.line)
    (g.L.Line.traffic c.fill.new.line)
    c.args.reads.now c.loop-self.reads c.fill.new.reads c.loop-self.invariant.quiet c.in_ok-fill.field-0 c.in_ok-fill.ensures.fills c.listen.new.self
    c.args.moment
    (subst (λ (o : Option ClientEvent). Listens c.fill.new.self c.listen.new.self c.args.moment (Ok o)) (none-of c.in_ok-event.field-0 c.in_default.not-Some)
    c.in_ok-event.ensures.listens)
