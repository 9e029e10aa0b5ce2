use Rattle.std.proofs.Common.{refl}
use Rattle.ua_channel.specs.Content.{opening_of}
use Rattle.ua_channel.specs.Content.Content.{Opens, Sends}
use Rattle.ua_channel.proofs.Carried.{content_msg, content_opn}
use Rattle.ua_channel.proofs.Frames.{running_judged}
use Rattle.ua_channel.proofs.server_rules.ServerRules.on_running.Goals as goal

pub returns-in-Msg : goal.returns-in-Msg
returns-in-Msg c = λ before bound s bound_is place.
    running_judged c.args.self.now before c.args.frame bound bound_is c.on_message.new.self (Sends c.read_chunk.result) c.on_message.result
    (content_msg c.args.frame c.read_chunk.result c.in-Msg.is c.read_chunk.ensures.found) refl (c.on_message.ensures c.args.self.now.limits before s)

pub returns-in-Opn : goal.returns-in-Opn
returns-in-Opn c = λ before bound s bound_is place.
    running_judged c.args.self.now before c.args.frame bound bound_is c.on_renewal.new.self (Opens (opening_of c.args.frame.body)) c.on_renewal.result
    (content_opn c.args.frame c.in-Opn.is) refl (c.on_renewal.ensures c.args.self.now.limits before s)
