use Rattle.std.proofs.Common.{List, ℕ, Ok, refl, subst}
use Rattle.ua_opening.specs.Open.{answer_read}
use Rattle.ua_channel.specs.inside.ClientParts.{IsStopFor, Judged, IsAnsweredBy, body_reasons}
use Rattle.ua_channel.proofs.ClientOpenings.{judges_headers, judges_body, judges_good}
use Rattle.ua_channel.proofs.Openings.{has_headers}
use Rattle.ua_channel.proofs.client.answer.judge_answer.Goals as goal

pub returns-in-Err : goal.returns-in-Err
returns-in-Err c = judges_headers c.args.frame.body c.in-Err.fault c.from_open.result c.in-Err.ensures.faults c.from_open.ensures

pub returns-in-Ok-judge_body : goal.returns-in-Ok-judge_body
returns-in-Ok-judge_body c =
    judges_good c.in-Ok.opening.channel c.in-Ok.opening.sequence c.in-Ok.opening.request c.args.frame.body c.in-Ok.opening.body
    (has_headers c.args.frame c.in-Ok.opening c.in-Ok.ensures.found) _ refl refl
    (subst (λ (t : List ℕ). Judged (body_reasons (answer_read t)) (IsAnsweredBy (answer_read t)) (Ok c.in-Ok-judge_body.issued)) c.deref.ensures
    c.in-Ok-judge_body.ensures)

pub returns : goal.returns
returns c =
    judges_body c.in-Ok.opening.channel c.in-Ok.opening.sequence c.in-Ok.opening.request c.args.frame.body c.in-Ok.opening.body
    (has_headers c.args.frame c.in-Ok.opening c.in-Ok.ensures.found) c.in-Err-judge_body.fault
    (subst (λ (t : List ℕ). IsStopFor (body_reasons (answer_read t)) c.in-Err-judge_body.fault) c.deref.ensures c.in-Err-judge_body.ensures)
