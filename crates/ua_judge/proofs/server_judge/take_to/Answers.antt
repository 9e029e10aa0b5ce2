use Rattle.std.proofs.Common.{◌∙◌, refl, sym, subst, arith}
use Rattle.ua_frame.specs.declared.limits.Limits.{Limits}
use Rattle.ua_channel.specs.Client.{client_limits}
use Rattle.ua_judge.specs.Judging.{TakesTo}
use Rattle.ua_judge.proofs.ClientTakes.{follows_on, up_to_verdict}
use Rattle.ua_judge.proofs.server_judge.take_to.Goals as goal

pub loop-at-init : goal.loop-at-init
loop-at-init c = record { within = c.requires; further = omega arith; upto = omega arith; follows = λ asks s. s; limits = refl }

pub loop-at-preserved : goal.loop-at-preserved
loop-at-preserved c = record {
  within = omega (arith, c.in_ok-taken.ensures.within, c.min-end.ensures);
  further = omega (arith, c.in_ok-taken.ensures.further, c.loop-at.invariant.further);
  upto = omega (arith, c.in_ok-taken.ensures.within);
  follows = λ asks s.
      follows_on (client_limits c.loop-at.client) c.args.requests.now asks c.args.octets.now c.in_ok-taken.taken.at c.take_next.new.client
      c.in_ok-taken.taken.verdict (sym c.has_verdict.ensures ∙ c.if-has_verdict.false)
      (c.in_ok-taken.ensures.takes asks (c.loop-at.invariant.follows asks s));
  limits = c.in_ok-taken.ensures.limits ∙ c.loop-at.invariant.limits;
}

pub loop-at-smaller : goal.loop-at-smaller
loop-at-smaller c = omega (arith, c.in_ok-taken.ensures.further, c.in_ok-taken.ensures.within, c.loop-at-test.true)

pub returns-then-has_verdict-clause-takes : goal.returns-then-has_verdict-clause-takes
returns-then-has_verdict-clause-takes c = λ asks s.
    up_to_verdict (client_limits c.args.client.now) c.args.requests.now asks c.args.octets.now c.args.from c.args.place c.in_ok-taken.taken.at
    c.take_next.new.client c.in_ok-taken.taken.verdict
    (omega (arith, c.in_ok-taken.ensures.within, c.min-end.ensures)) (sym c.has_verdict.ensures ∙ c.if-has_verdict.true)
    (subst (λ (l : Limits). TakesTo l c.args.requests.now asks c.args.octets.now c.in_ok-taken.taken.at c.take_next.new.client c.in_ok-taken.taken.verdict)
    c.loop-at.invariant.limits
    (c.in_ok-taken.ensures.takes asks (c.loop-at.invariant.follows asks s)))

pub returns-then-has_verdict-clause-within : goal.returns-then-has_verdict-clause-within
returns-then-has_verdict-clause-within c = omega (arith, c.in_ok-taken.ensures.within, c.min-end.ensures)

pub returns-then-has_verdict-clause-limits : goal.returns-then-has_verdict-clause-limits
returns-then-has_verdict-clause-limits c = c.in_ok-taken.ensures.limits ∙ c.loop-at.invariant.limits

pub returns-clause-takes : goal.returns-clause-takes
returns-clause-takes c = λ asks s. (
  omega (arith, c.min-end.ensures, c.loop-at-test.false, c.loop-at.invariant.further, c.loop-at.invariant.upto),
  c.loop-at.invariant.follows asks s,
)
