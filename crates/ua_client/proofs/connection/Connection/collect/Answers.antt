use Rattle.std.proofs.Common.{◌≡◌, Err, refl, sym, ◌∙◌, subst}
use Rattle.std.specs.Prelude.{ℕ}
use Rattle.std.proofs.lemmas.Result.{err_from_is_err_and}
use Rattle.ua_channel.specs.declared.client.event.ClientEvent.{ClientEvent}
use Rattle.ua_client.specs.Hearing.{failures_behind}
use Rattle.ua_client.proofs.Incoming.{waits-first, waits-more, collects-heard, collects-misread, collects-all, reading-failures}
use Rattle.ua_client.proofs.connection.Connection.collect.Goals as goal

pub loop-moment-init : goal.loop-moment-init
loop-moment-init g c = record {
  waits = waits-first c.args.asked.now.requests.now c.args.asked.now.first c.args.self.now (g.L.Line.traffic c.args.line.now) c.args.reads.now
      c.args.slots.now.slots
      c.requires.none;
  had = refl;
  same = refl;
}

pub returns-in_err-event-clause-collects : goal.returns-in_err-event-clause-collects
returns-in_err-event-clause-collects g c =
    let p = err_from_is_err_and c.from_residual.result c.from_residual.ensures.1 in
    rw (p.1, p.2) (collects-heard c.args.asked.now.requests.now c.args.asked.now.first c.args.self.now c.loop-moment.self c.hear.new.self
    (g.L.Line.traffic c.args.line.now)
    (g.L.Line.traffic c.loop-moment.line) (g.L.Line.traffic c.hear.new.line)
    c.args.reads.now c.loop-moment.reads c.hear.new.reads c.loop-moment.slots.slots c.args.moment c.loop-moment.invariant.waits c.in_err-event.field-0.0
    c.in_err-event.ensures.hears (sym c.is_waiting.ensures ∙ c.loop-moment-test.true))

pub returns-in_err-event-clause-failed : goal.returns-in_err-event-clause-failed
returns-in_err-event-clause-failed g c =
    let p = err_from_is_err_and c.from_residual.result c.from_residual.ensures.1 in
    rw (p.1, p.2) (subst (λ (n : ℕ). g.L.Line.failures c.hear.new.line ≡ failures_behind {A = ClientEvent} n (Err c.in_err-event.field-0.0))
    c.loop-moment.invariant.same c.in_err-event.ensures.failed)

pub returns-in_err-place_reply-clause-collects : goal.returns-in_err-place_reply-clause-collects
returns-in_err-place_reply-clause-collects g c =
    let p = err_from_is_err_and c.from_residual-in_err-place_reply.result c.from_residual-in_err-place_reply.ensures.1 in
    rw (p.1, p.2) (collects-misread c.args.asked.now.requests.now c.args.asked.now.first c.args.self.now c.loop-moment.self c.hear.new.self
    (g.L.Line.traffic c.args.line.now)
    (g.L.Line.traffic c.loop-moment.line) (g.L.Line.traffic c.hear.new.line)
    c.args.reads.now c.loop-moment.reads c.hear.new.reads c.loop-moment.slots.slots c.args.moment c.loop-moment.invariant.waits c.in_ok-event.event
    c.in_err-place_reply.field-0.0 c.place_reply.new.slots.slots c.in_err-place_reply.ensures.err
    (sym c.is_waiting.ensures ∙ c.loop-moment-test.true)
    c.in_ok-event.ensures.hears c.client_goes_on.ensures c.calls_are_told_once.ensures c.in_err-place_reply.ensures.fills c.in_err-place_reply.ensures.faults)

pub returns-in_err-place_reply-clause-failed : goal.returns-in_err-place_reply-clause-failed
returns-in_err-place_reply-clause-failed g c =
    let p = err_from_is_err_and c.from_residual-in_err-place_reply.result c.from_residual-in_err-place_reply.ensures.1 in
    rw (p.1, p.2)
    (◌∙◌ {b = g.L.Line.failures c.loop-moment.line} c.in_ok-event.ensures.failed (◌∙◌ {b = g.L.Line.failures c.args.line.now} c.loop-moment.invariant.same
    (sym (reading-failures c.in_err-place_reply.field-0.0 c.in_err-place_reply.ensures.faults (g.L.Line.failures c.args.line.now)))))

pub loop-moment-preserved : goal.loop-moment-preserved
loop-moment-preserved g c = record {
  waits = waits-more c.args.asked.now.requests.now c.args.asked.now.first c.args.self.now c.loop-moment.self c.hear.new.self (g.L.Line.traffic c.args.line.now)
      (g.L.Line.traffic c.loop-moment.line) (g.L.Line.traffic c.hear.new.line)
      c.args.reads.now c.loop-moment.reads c.hear.new.reads c.loop-moment.slots.slots c.args.moment c.loop-moment.invariant.waits c.in_ok-event.event
      c.in_ok-event.ensures.hears c.client_goes_on.ensures c.calls_are_told_once.ensures
      c.place_reply.new.slots.slots c.in_ok-place_reply.ensures.count
      (sym c.is_waiting.ensures ∙ c.loop-moment-test.true)
      c.in_ok-place_reply.ensures.fills;
  had = c.in_ok-place_reply.ensures.had ∙ c.loop-moment.invariant.had;
  same = ◌∙◌ {b = g.L.Line.failures c.loop-moment.line} c.in_ok-event.ensures.failed c.loop-moment.invariant.same;
}

pub loop-moment-smaller : goal.loop-moment-smaller
loop-moment-smaller g c = c.in_ok-event.ensures.hears.less

pub returns-clause-collects : goal.returns-clause-collects
returns-clause-collects g c =
    collects-all c.args.asked.now.requests.now c.args.asked.now.first c.args.self.now c.loop-moment.self c.loop-moment.self (g.L.Line.traffic c.args.line.now)
    (g.L.Line.traffic c.loop-moment.line) (g.L.Line.traffic c.loop-moment.line)
    c.args.reads.now c.loop-moment.reads c.loop-moment.reads c.loop-moment.slots.slots c.args.moment c.loop-moment.invariant.waits tt
    (sym c.is_waiting.ensures ∙ c.loop-moment-test.false)
    c.requires.some
