use Rattle.std.proofs.Common.{◌≤◌, ◌∙◌, length, take, sym, subst}
use Rattle.std.proofs.lemmas.List.{length-take-le}
use Rattle.std.proofs.lemmas.Result.{IfOk-weaker}
use Rattle.ua_channel.specs.Client.{client_limits}
use Rattle.ua_judge.specs.Verdicts.{named_asks_of}
use Rattle.ua_judge.specs.declared.taken.Taken.{Taken}
use Rattle.ua_judge.proofs.ClientTakes.{follows_up_to, goes_by_verdict, goes_on_so}
use Rattle.ua_judge.proofs.Sending.{err_is, judged_within, sends_so, stops_taken}
use Rattle.ua_judge.proofs.server_judge.go_on.Goals as goal

pub returns-then-has_verdict-clause-takes : goal.returns-then-has_verdict-clause-takes
returns-then-has_verdict-clause-takes c = λ before last s.
    goes_by_verdict (client_limits c.args.client.now) c.args.requests.now before c.args.request.now c.args.octets.now c.args.from c.in_ok-taken.taken.at
    c.take_to.new.client c.take_to.new.client c.in_ok-taken.taken.verdict
    (sym c.has_verdict.ensures ∙ c.if-has_verdict.true) (c.in_ok-taken.ensures.takes (named_asks_of before) s)

pub returns-in-Ok-clause-takes : goal.returns-in-Ok-clause-takes
returns-in-Ok-clause-takes c = λ before last s.
    let f = follows_up_to (client_limits c.args.client.now) c.args.requests.now (named_asks_of before) c.args.octets.now c.args.from c.args.request.now.place
    c.in_ok-taken.taken.at c.take_to.new.client c.in_ok-taken.taken.verdict
    (sym c.has_verdict.ensures ∙ c.if-has_verdict.false) (c.in_ok-taken.ensures.takes (named_asks_of before) s) in
    let j = c.in-Ok.ensures.judged c.args.requests.now (named_asks_of before) (take c.in_ok-taken.taken.at c.args.octets.now) f.1 c.in-Ok.ensures.placed in
    sends_so (client_limits c.args.client.now) c.args.requests.now before c.args.request.now c.args.octets.now c.args.from c.in_ok-taken.taken.at
    c.send.new.client j.0 c.in_ok-taken.ensures.within last f.0 c.in-Ok.ensures.placed
    (judged_within c.args.requests.now (named_asks_of before) _ c.args.request.now.opens j.0 c.in_ok-taken.ensures.limits j.1.0) j.1.1
    (c.in-Ok.ensures.asks c.args.requests.now (named_asks_of before) (take c.in_ok-taken.taken.at c.args.octets.now)
    (length-take-le c.in_ok-taken.taken.at c.args.octets.now c.in_ok-taken.ensures.within) f.1)

pub returns-in-Ok-clause-limits : goal.returns-in-Ok-clause-limits
returns-in-Ok-clause-limits c = c.in-Ok.ensures.limits ∙ c.in_ok-taken.ensures.limits

pub returns-in-Err-clause-takes : goal.returns-in-Err-clause-takes
returns-in-Err-clause-takes c = λ before last s.
    let f = follows_up_to (client_limits c.args.client.now) c.args.requests.now (named_asks_of before) c.args.octets.now c.args.from c.args.request.now.place
    c.in_ok-taken.taken.at c.take_to.new.client c.in_ok-taken.taken.verdict
    (sym c.has_verdict.ensures ∙ c.if-has_verdict.false) (c.in_ok-taken.ensures.takes (named_asks_of before) s) in
    let octets = take c.in_ok-taken.taken.at c.args.octets.now in
    let goes = goes_on_so c.args.requests.now c.take_to.new.client (client_limits c.args.client.now) (named_asks_of before) octets c.in_ok-taken.ensures.limits
    f.1 in
    stops_taken c.stopped.result (client_limits c.args.client.now) c.args.requests.now before c.args.request.now c.args.octets.now c.args.from
    c.in_ok-taken.taken.at c.send.new.client c.in-Err.fault c.stopped.ensures.stops c.stopped.ensures.named
    c.in_ok-taken.ensures.within last f.0 goes
    (λ place.
    let j = c.in-Err.ensures.judged c.args.requests.now (named_asks_of before) octets f.1 place in
    (j.0, (judged_within c.args.requests.now (named_asks_of before) octets c.args.request.now.opens j.0 c.in_ok-taken.ensures.limits j.1.0, j.1.1)))
    (λ other. err_is (c.in-Err.ensures.placeless other))

pub returns-in-Err-clause-within : goal.returns-in-Err-clause-within
returns-in-Err-clause-within c =
    IfOk-weaker c.stopped.result _ _ (λ taken is. subst (λ (t : Taken). t.at ≤ length c.args.octets.now) (sym is) c.in_ok-taken.ensures.within)
    c.stopped.ensures.stops

pub returns-in-Err-clause-limits : goal.returns-in-Err-clause-limits
returns-in-Err-clause-limits c = c.in-Err.ensures.limits ∙ c.in_ok-taken.ensures.limits
