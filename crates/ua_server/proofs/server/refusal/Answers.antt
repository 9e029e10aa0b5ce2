use Rattle.std.proofs.Common.{◌∙◌}
use Rattle.ua_channel.specs.declared.server_fault.ChannelFault.TheVariants as channel_fault
use Rattle.ua_server.proofs.Nows.{now-refusal}
use Rattle.ua_server.proofs.Standing.{fault-as}
use Rattle.ua_server.proofs.server.refusal.Goals as goal

pub returns-in-Ok-clause-now : goal.returns-in-Ok-clause-now
returns-in-Ok-clause-now c = λ old mid moment piece octets told before b.
    now-refusal old mid moment piece c.args.taken octets told before c.in-Refused.code c.in-Refused.err_frame c.extend_from_slice.new.self.items
    (fault-as old mid moment piece c.args.taken octets told c.args.fault (channel_fault.Refused c.in-Refused.code c.in-Refused.err_frame) c.in-Refused.is b)
    (c.in-Ok.ensures.items ∙ rw c.new-out.ensures.items)
