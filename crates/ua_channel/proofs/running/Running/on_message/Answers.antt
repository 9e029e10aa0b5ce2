use Rattle.std.proofs.Common.{sym}
use Rattle.ua_channel.proofs.Runs.{takes_message, refuses_message}
use Rattle.ua_channel.proofs.running.Running.on_message.Goals as goal

pub returns-in-Ok : goal.returns-in-Ok
returns-in-Ok c = λ limits before s.
    takes_message limits c.args.self.now before c.args.channel c.args.chunk s c.in-Ok.delivered c.from_delivered.result c.accept.new.self
    (sym c.in_default.ensures) (c.in-Ok.ensures.faults before.messages s.assembles)
    (c.in-Ok.ensures.items before.messages s.assembles) (c.in-Ok.ensures.parts before.messages s.assembles) c.from_delivered.ensures.tells
    c.from_delivered.ensures.parts (c.in-Ok.ensures.stands before.messages s.assembles) c.in-Ok.ensures.last c.in-Ok.ensures.limits

pub returns-in-Err : goal.returns-in-Err
returns-in-Err c = λ limits before s.
    refuses_message limits c.args.self.now before c.args.channel c.args.chunk s c.in-Err.fault c.from_chunk.result (sym c.in_default.ensures)
    (c.in-Err.ensures.faults before.messages s.assembles) c.from_chunk.ensures
