use Rattle.std.proofs.Common.{subst, sym}
use Rattle.ua_channel.specs.inside.ClientParts.{IsFirstOnce}
use Rattle.ua_channel.proofs.AskedOnce.{once_pending}
use Rattle.ua_channel.proofs.ClientTalks.{renewal_judged, chunk_judged, stopped_opn}
use Rattle.ua_channel.proofs.ClientGreets.{stopped_err}
use Rattle.ua_channel.proofs.client.talking.Talking.on_frame.Goals as goal

pub returns-in-Msg : goal.returns-in-Msg
returns-in-Msg c = λ limits before asked h let_in.
    chunk_judged limits c.args.self.now before asked c.on_chunk.new.self h c.args.frame c.read_chunk.result c.on_chunk.result c.in-Msg.is
    c.read_chunk.ensures.found (c.on_chunk.ensures before.messages h.assembles
    (subst IsFirstOnce (sym h.pending_are) (once_pending before.messages asked h.counted)))

pub returns-in-Ok : goal.returns-in-Ok
returns-in-Ok c = λ limits before asked h let_in.
    renewal_judged limits c.args.self.now before asked c.on_renewed.new.self h c.args.frame c.in-Ok.answer c.on_renewed.result c.in-Opn.is c.in-Ok.ensures
    (c.on_renewed.ensures before.messages h.assembles)

pub returns-in-Err-judge_answer : goal.returns-in-Err-judge_answer
returns-in-Err-judge_answer c = λ limits before asked h let_in. stopped_opn limits before asked c.args.frame c.in-Err-judge_answer.fault c.in-Opn.is
    c.in-Err-judge_answer.ensures

pub returns-in-Err : goal.returns-in-Err
returns-in-Err c = λ limits before asked h let_in. stopped_err limits before asked c.args.frame c.deref.result.now c.stop_of_error.result c.in-Err.is
    c.deref.ensures c.stop_of_error.ensures
