use Rattle.std.proofs.Common.{◌≡◌, Err, refl, ◌∙◌, ap, subst}
use Rattle.std.specs.Prelude.{ℕ}
use Rattle.std.proofs.lemmas.Result.{err_from_is_err_and}
use Rattle.ua_channel.specs.declared.client.event.ClientEvent.{ClientEvent}
use Rattle.ua_client.specs.Hearing.{Says, failures_behind}
use Rattle.ua_client.specs.Opening.{is_agreed, open_frame_octets}
use Rattle.ua_client.proofs.Openings.{is_send, not-send, tests-agreed, lacks-first, lacks-more, waits-found, waits-fault}
use Rattle.ua_client.proofs.connection.Connection.wait_for_opening.Goals as goal

pub loop-octets-init : goal.loop-octets-init
loop-octets-init g c = record { lacks = lacks-first is_agreed c.args.self.now (g.L.Line.traffic c.args.line.now) c.args.reads.now; same = refl }

pub returns-in_err-octets-clause-waits : goal.returns-in_err-octets-clause-waits
returns-in_err-octets-clause-waits g c =
    let p = err_from_is_err_and c.from_residual.result c.from_residual.ensures.1 in
    rw (p.1, p.2) (waits-fault is_send is_agreed tests-agreed c.args.self.now c.loop-octets.self c.hear.new.self (g.L.Line.traffic c.args.line.now)
    (g.L.Line.traffic c.loop-octets.line) (g.L.Line.traffic c.hear.new.line)
    c.args.reads.now c.loop-octets.reads c.hear.new.reads c.args.moment c.loop-octets.invariant.lacks (λ octets. octets.items ≡ open_frame_octets c.args.moment)
    c.in_err-octets.field-0.0 c.in_err-octets.ensures.hears)

pub returns-in_err-octets-clause-failed : goal.returns-in_err-octets-clause-failed
returns-in_err-octets-clause-failed g c =
    let p = err_from_is_err_and c.from_residual.result c.from_residual.ensures.1 in
    rw (p.1, p.2) (subst (λ (n : ℕ). g.L.Line.failures c.hear.new.line ≡ failures_behind {A = ClientEvent} n (Err c.in_err-octets.field-0.0))
    c.loop-octets.invariant.same c.in_err-octets.ensures.failed)

pub returns-in-Send-clause-waits : goal.returns-in-Send-clause-waits
returns-in-Send-clause-waits g c =
    waits-found is_send is_agreed tests-agreed c.args.self.now c.loop-octets.self c.hear.new.self (g.L.Line.traffic c.args.line.now)
    (g.L.Line.traffic c.loop-octets.line) (g.L.Line.traffic c.hear.new.line)
    c.args.reads.now c.loop-octets.reads c.hear.new.reads c.args.moment c.loop-octets.invariant.lacks (λ octets. octets.items ≡ open_frame_octets c.args.moment)
    c.in_ok-octets.field-0 c.in-Send.octets (ap is_send c.in-Send.is) (λ t s. (subst (λ (e : ClientEvent). Says c.args.moment e t) c.in-Send.is s).0)
    c.in_ok-octets.ensures.hears

pub loop-octets-preserved : goal.loop-octets-preserved
loop-octets-preserved g c = record {
  lacks = lacks-more is_send is_agreed tests-agreed c.args.self.now c.loop-octets.self c.hear.new.self (g.L.Line.traffic c.args.line.now)
      (g.L.Line.traffic c.loop-octets.line) (g.L.Line.traffic c.hear.new.line)
      c.args.reads.now c.loop-octets.reads c.hear.new.reads c.args.moment c.loop-octets.invariant.lacks c.client_goes_on.ensures c.in_ok-octets.field-0
      (not-send c.in_ok-octets.field-0 c.in_default.not-Send) c.in_ok-octets.ensures.hears;
  same = c.in_ok-octets.ensures.failed ∙ c.loop-octets.invariant.same;
}

pub loop-octets-smaller : goal.loop-octets-smaller
loop-octets-smaller g c = c.in_ok-octets.ensures.hears.less

pub loop-octets-preserved-in_default : goal.loop-octets-preserved-in_default
loop-octets-preserved-in_default g c = record {
  lacks = lacks-more is_send is_agreed tests-agreed c.args.self.now c.loop-octets.self c.hear.new.self (g.L.Line.traffic c.args.line.now)
      (g.L.Line.traffic c.loop-octets.line) (g.L.Line.traffic c.hear.new.line)
      c.args.reads.now c.loop-octets.reads c.hear.new.reads c.args.moment c.loop-octets.invariant.lacks c.client_goes_on.ensures c.in_ok-octets.field-0
      (not-send c.in_ok-octets.field-0 c.in_default.not-Send) c.in_ok-octets.ensures.hears;
  same = c.in_ok-octets.ensures.failed ∙ c.loop-octets.invariant.same;
}
