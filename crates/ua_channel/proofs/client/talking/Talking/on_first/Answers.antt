use Rattle.std.proofs.Common.{[]}
use Rattle.ua_channel.specs.inside.ClientParts.{greeted}
use Rattle.ua_channel.proofs.ClientTalks.{first_judged, stopped_opn}
use Rattle.ua_channel.proofs.ClientGreets.{stopped_err}
use Rattle.ua_channel.proofs.client.talking.Talking.on_first.Goals as goal

pub returns-in-Ok : goal.returns-in-Ok
returns-in-Ok c = λ let_in. first_judged c.args.limits.now c.args.agreed c.args.frame c.in-Ok.answer c.open.result c.in-Opn.is c.in-Ok.ensures c.open.ensures

pub returns-in-Err-judge_answer : goal.returns-in-Err-judge_answer
returns-in-Err-judge_answer c = λ let_in. stopped_opn c.args.limits.now (greeted c.args.agreed) [] c.args.frame c.in-Err-judge_answer.fault c.in-Opn.is
    c.in-Err-judge_answer.ensures

pub returns-in-Err : goal.returns-in-Err
returns-in-Err c = λ let_in. stopped_err c.args.limits.now (greeted c.args.agreed) [] c.args.frame c.deref.result.now c.stop_of_error.result c.in-Err.is
    c.deref.ensures c.stop_of_error.ensures
