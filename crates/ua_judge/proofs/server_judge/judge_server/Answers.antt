use Rattle.std.proofs.Common.{rules, ◌∙◌, ℕ, List, [], IsTrue, Option, take, refl, subst, sym, arith}
use Rattle.ua_wire.specs.Counted.{counted, text}
use Rattle.std.proofs.lemmas.Result.{IfOk-weaker}
use Rattle.ua_frame.proofs.Afters.{AllAfter-nil}
use Rattle.ua_frame.specs.declared.limits.Limits.{Limits}
use Rattle.ua_judge.specs.Verdicts.{IsSent, IsVerdictOn, named_asks_of}
use Rattle.ua_judge.proofs.ClientTakes.{fit_none}
use Rattle.ua_judge.proofs.Sending.{decided_by, each_sent, follows_sent, leaves_first, leaves_none, place_sent, sent_by}
use Rattle.ua_judge.proofs.server_judge.judge_server.Goals as goal

pub loop-request-init : goal.loop-request-init
loop-request-init c = record {
  within = omega arith;
  last = refl;
  each = AllAfter-nil (IsSent c.args.limits c.args.requests.now c.args.octets.now);
  follows = record { frames = []; rest = []; stands = c.new-client.ensures.stands; fit = fit_none c.args.requests.now c.new-client.result [] };
  limits = c.new-client.ensures.limits;
}

pub loop-request-preserved : goal.loop-request-preserved
loop-request-preserved c =
    let i = c.loop-request.request-index in
    let s = sent_by c.args.requests.now (take i c.args.requests.now) _ c.args.octets.now c.in_ok-taken.taken.at c.go_on.new.client
    c.loop-request.invariant.limits c.in_default.is (c.in_ok-taken.ensures.takes (take i c.args.requests.now) c.loop-request.invariant.last
    c.loop-request.invariant.follows) in
    record {
      within = c.in_ok-taken.ensures.within;
      last = place_sent c.args.requests.now i _ c.loop-request-test.true ∙ sym s.place_is;
      each = each_sent c.args.limits c.args.requests.now c.args.octets.now c.args.requests.now i _ c.loop-request-test.true c.loop-request.invariant.each
          s.is;
      follows = follows_sent c.args.requests.now c.go_on.new.client _ c.args.requests.now i _ c.loop-request-test.true s.follows;
      limits = c.in_ok-taken.ensures.limits ∙ c.loop-request.invariant.limits;
    }

pub returns-in-Some : goal.returns-in-Some
returns-in-Some c =
    let i = c.loop-request.request-index in
    let d = decided_by c.args.requests.now (take i c.args.requests.now) _ c.args.octets.now c.in_ok-taken.taken.at c.go_on.new.client c.in-Some.verdict
    c.loop-request.invariant.limits c.in-Some.is (c.in_ok-taken.ensures.takes (take i c.args.requests.now) c.loop-request.invariant.last
    c.loop-request.invariant.follows) in
    record {
      sent = i;
      each = c.loop-request.invariant.each;
      leaves = leaves_first c.args.limits c.args.requests.now c.args.octets.now c.args.requests.now i _ c.in-Some.verdict c.loop-request-test.true d.0;
      is = d.1;
    }

pub returns : goal.returns
returns c =
    let i = c.loop-request.request-index in
    IfOk-weaker c.finish.result _ _
    (λ verdict is. record {
      sent = i;
      each = c.loop-request.invariant.each;
      leaves = leaves_none c.args.limits c.args.requests.now c.args.octets.now c.args.requests.now i verdict (omega (arith, c.loop-request-test.false)) is.0;
      is = subst (λ (l : Limits). IsVerdictOn l (named_asks_of (take i c.args.requests.now)) c.args.requests.now c.args.octets.now verdict)
          c.loop-request.invariant.limits is.1;
    })
    (c.finish.ensures (named_asks_of (take i c.args.requests.now)) c.loop-request.invariant.follows)

pub new-client-requires : goal.new-client-requires
unfolding text counted
new-client-requires c = subst (λ (u : Option (List ℕ)). IsTrue (text.encodable u)) (sym c.null.ensures) (search rules)
