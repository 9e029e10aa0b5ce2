use Rattle.std.proofs.Common.{◌≡◌, Err, refl, ◌∙◌, ap, subst}
use Rattle.std.specs.Prelude.{ℕ}
use Rattle.std.proofs.lemmas.Result.{err_from_is_err_and}
use Rattle.ua_channel.specs.declared.client.event.ClientEvent.{ClientEvent}
use Rattle.ua_client.specs.Hearing.{failures_behind}
use Rattle.ua_client.specs.Opening.{is_opened, any_done}
use Rattle.ua_client.proofs.Openings.{is_open, not-open, tests-opened, lacks-first, lacks-more, waits-found, waits-fault}
use Rattle.ua_client.proofs.connection.Connection.wait_until_open.Goals as goal

pub loop-init : goal.loop-init
loop-init g c = record { lacks = lacks-first is_opened c.args.self.now (g.L.Line.traffic c.args.line.now) c.args.reads.now; same = refl }

pub returns-in_err-hear-clause-waits : goal.returns-in_err-hear-clause-waits
returns-in_err-hear-clause-waits g c =
    let p = err_from_is_err_and c.from_residual.result c.from_residual.ensures.1 in
    rw (p.1, p.2) (waits-fault is_open is_opened tests-opened c.args.self.now c.loop.self c.hear.new.self (g.L.Line.traffic c.args.line.now)
    (g.L.Line.traffic c.loop.line) (g.L.Line.traffic c.hear.new.line)
    c.args.reads.now c.loop.reads c.hear.new.reads c.args.moment c.loop.invariant.lacks any_done c.in_err-hear.field-0.0 c.in_err-hear.ensures.hears)

pub returns-in_err-hear-clause-failed : goal.returns-in_err-hear-clause-failed
returns-in_err-hear-clause-failed g c =
    let p = err_from_is_err_and c.from_residual.result c.from_residual.ensures.1 in
    rw (p.1, p.2) (subst (λ (n : ℕ). g.L.Line.failures c.hear.new.line ≡ failures_behind {A = ClientEvent} n (Err c.in_err-hear.field-0.0))
    c.loop.invariant.same c.in_err-hear.ensures.failed)

pub returns-in-Open-clause-waits : goal.returns-in-Open-clause-waits
returns-in-Open-clause-waits g c =
    waits-found is_open is_opened tests-opened c.args.self.now c.loop.self c.hear.new.self (g.L.Line.traffic c.args.line.now) (g.L.Line.traffic c.loop.line)
    (g.L.Line.traffic c.hear.new.line)
    c.args.reads.now c.loop.reads c.hear.new.reads c.args.moment c.loop.invariant.lacks any_done c.in_ok-hear.field-0 tt (ap is_open c.in-Open.is)
    (λ t s. tt) c.in_ok-hear.ensures.hears

pub loop-preserved : goal.loop-preserved
loop-preserved g c = record {
  lacks = lacks-more is_open is_opened tests-opened c.args.self.now c.loop.self c.hear.new.self (g.L.Line.traffic c.args.line.now)
      (g.L.Line.traffic c.loop.line) (g.L.Line.traffic c.hear.new.line)
      c.args.reads.now c.loop.reads c.hear.new.reads c.args.moment c.loop.invariant.lacks c.client_goes_on.ensures c.in_ok-hear.field-0
      (not-open c.in_ok-hear.field-0 c.in_default.not-Open) c.in_ok-hear.ensures.hears;
  same = c.in_ok-hear.ensures.failed ∙ c.loop.invariant.same;
}

pub loop-smaller : goal.loop-smaller
loop-smaller g c = c.in_ok-hear.ensures.hears.less

pub loop-preserved-in_default : goal.loop-preserved-in_default
loop-preserved-in_default g c = record {
  lacks = lacks-more is_open is_opened tests-opened c.args.self.now c.loop.self c.hear.new.self (g.L.Line.traffic c.args.line.now)
      (g.L.Line.traffic c.loop.line) (g.L.Line.traffic c.hear.new.line)
      c.args.reads.now c.loop.reads c.hear.new.reads c.args.moment c.loop.invariant.lacks c.client_goes_on.ensures c.in_ok-hear.field-0
      (not-open c.in_ok-hear.field-0 c.in_default.not-Open) c.in_ok-hear.ensures.hears;
  same = c.in_ok-hear.ensures.failed ∙ c.loop.invariant.same;
}

pub loop-preserved-in_default-2 : goal.loop-preserved-in_default-2
loop-preserved-in_default-2 g c = record {
  lacks = lacks-more is_open is_opened tests-opened c.args.self.now c.loop.self c.hear.new.self (g.L.Line.traffic c.args.line.now)
      (g.L.Line.traffic c.loop.line) (g.L.Line.traffic c.hear.new.line)
      c.args.reads.now c.loop.reads c.hear.new.reads c.args.moment c.loop.invariant.lacks c.client_goes_on.ensures c.in_ok-hear.field-0
      (not-open c.in_ok-hear.field-0 c.in_default.not-Open) c.in_ok-hear.ensures.hears;
  same = c.in_ok-hear.ensures.failed ∙ c.loop.invariant.same;
}
