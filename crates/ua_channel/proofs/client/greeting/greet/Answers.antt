use Rattle.std.proofs.Common.{[]}
use Rattle.ua_channel.specs.Received.{nothing_received}
use Rattle.ua_channel.proofs.ClientGreets.{judged_ack, stopped_err}
use Rattle.ua_channel.proofs.client.greeting.greet.Goals as goal

pub returns-in-Ack : goal.returns-in-Ack
returns-in-Ack c = λ let_in. judged_ack c.args.limits.now c.args.frame c.deref.result.now c.judge_ack.result c.in-Ack.is c.deref.ensures c.judge_ack.ensures

pub returns-in-Err : goal.returns-in-Err
returns-in-Err c = λ let_in. stopped_err c.args.limits.now nothing_received [] c.args.frame c.deref-in-Err.result.now c.stop_of_error.result c.in-Err.is
    c.deref-in-Err.ensures c.stop_of_error.ensures
