use Rattle.std.proofs.Common.{◌≡◌, ◌∙◌, ap, Bool, cond}
use Rattle.std.proofs.lemmas.Result.{err_from_is_err_and}
use Rattle.ua_session.specs.declared.verdict.Verdict.TheVariants.{AllGood, SomeBad}
use Rattle.ua_program.proofs.Readings.{stops_last}
use Rattle.ua_program.proofs.dissect.print_last.Goals as goal

pub returns-in_err-push_last-clause-stopped : goal.returns-in_err-push_last-clause-stopped
returns-in_err-push_last-clause-stopped g c = λ content told s.
    let asked = c.args.asked.now in
    let p = err_from_is_err_and c.from_residual.result c.from_residual.ensures.1 in
    rw p.1 (stops_last asked.hex asked.file content c.in_err-push_last.field-0.0 p.0 p.2 (c.in_err-push_last.ensures.faults content told s))

pub returns-clause-prints : goal.returns-clause-prints
returns-clause-prints g c = λ content told s. (
  c.in_ok-push_last.ensures.lines content told s,
  record {
    octets = s.octets;
    holds = c.in_ok-push_last.ensures.whole content told s;
    told = told;
    are = s.stands.are;
    is = c.verdict_of.ensures ∙ ap (λ (b : Bool). cond b SomeBad AllGood) (c.has_refused.ensures.refused c.args.asked.now.options s.octets told s.stands);
  },
)
