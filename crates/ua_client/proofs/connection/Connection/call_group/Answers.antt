use Rattle.std.proofs.Common.{◌≡◌, ◌∷◌, [], List, Err, sym, subst}
use Rattle.ua_channel.specs.Client.{phase_of}
use Rattle.ua_services.specs.declared.request.Request.{Request}
use Rattle.ua_client.specs.Sent.{AnswersBy, RefusesBy, group_refusal}
use Rattle.ua_client.proofs.Judging.{only-one}
use Rattle.ua_client.proofs.GroupCalls.{group-refused, refused-failures}
use Rattle.ua_client.proofs.connection.Connection.call_group.Goals as goal

pub returns-in-Err-clause-calls : goal.returns-in-Err-clause-calls
returns-in-Err-clause-calls g c =
    let is : c.args.requests.now ≡ c.request-item.result ∷ [] =
    only-one c.args.requests.now c.request-item.result _ c.in-len1.len_at_least c.in-len1.len_below c.request-item.is in
    group-refused c.args.requests.now c.requires.few c.args.self.now (g.L.Line.traffic c.args.line.now) c.args.reads.now c.in-Err.calls c.args.replies.now.items
    (subst (λ (rs : List Request). AnswersBy {A = Unit {0}} (group_refusal (phase_of c.args.self.now.channel) 0 rs) (Err c.in-Err.calls.fault)) (sym is)
    c.in-Err.ensures.judged)
    (subst (λ (rs : List Request). RefusesBy (phase_of c.args.self.now.channel) rs c.in-Err.calls.request c.in-Err.calls.fault) (sym is)
    c.in-Err.ensures.place)

pub returns-in-Err-clause-failed : goal.returns-in-Err-clause-failed
returns-in-Err-clause-failed g c =
    let is : c.args.requests.now ≡ c.request-item.result ∷ [] =
    only-one c.args.requests.now c.request-item.result _ c.in-len1.len_at_least c.in-len1.len_below c.request-item.is in
    sym (refused-failures c.args.requests.now (phase_of c.args.self.now.channel) c.in-Err.calls.fault
    (subst (λ (rs : List Request). AnswersBy {A = Unit {0}} (group_refusal (phase_of c.args.self.now.channel) 0 rs) (Err c.in-Err.calls.fault)) (sym is)
    c.in-Err.ensures.judged)
    (g.L.Line.failures c.args.line.now))

pub returns-in-Err-judge_group-clause-calls : goal.returns-in-Err-judge_group-clause-calls
returns-in-Err-judge_group-clause-calls g c =
    group-refused c.args.requests.now c.requires.few c.args.self.now (g.L.Line.traffic c.args.line.now) c.args.reads.now c.in-Err-judge_group.calls
    c.args.replies.now.items
    c.in-Err-judge_group.ensures.judged c.in-Err-judge_group.ensures.place

pub returns-in-Err-judge_group-clause-failed : goal.returns-in-Err-judge_group-clause-failed
returns-in-Err-judge_group-clause-failed g c =
    sym (refused-failures c.args.requests.now (phase_of c.args.self.now.channel) c.in-Err-judge_group.calls.fault c.in-Err-judge_group.ensures.judged
    (g.L.Line.failures c.args.line.now))
