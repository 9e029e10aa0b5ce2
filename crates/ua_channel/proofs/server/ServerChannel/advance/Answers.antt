use Rattle.std.proofs.Common.{Result, Err, sym, subst}
use Rattle.ua_channel.specs.declared.server.ServerChannel.{ServerChannel}
use Rattle.ua_channel.specs.declared.server_event.ServerEvent.{ServerEvent}
use Rattle.ua_channel.specs.declared.server_fault.ChannelFault.{ChannelFault}
use Rattle.ua_channel.specs.ServerAnswers.{AnswersAt}
use Rattle.ua_channel.specs.ServerStands.{channel_of, next_of}
use Rattle.ua_channel.proofs.Answering.{starved_with}
use Rattle.ua_channel.proofs.server.ServerChannel.advance.Goals.{in-OutOfMemory, in_default}
use Rattle.ua_channel.proofs.server.ServerChannel.advance.Goals as goal

pub returns-in-Ok-clause-answers : goal.returns-in-Ok-clause-answers
returns-in-Ok-clause-answers c = λ octets told g.
    subst (λ (a : Result ServerEvent ChannelFault). AnswersAt (channel_of c.args.self.now) (next_of c.args.self.now) c.args.moment c.args.piece.now
    c.go_on-size.result.size a c.go_on-size.new.self octets told) c.in-Ok.is (c.go_on-size.ensures.answers octets told g)

pub returns-after-fault-clause-answers : goal.returns-after-fault-clause-answers
returns-after-fault-clause-answers c = λ octets told g.
    let failed : AnswersAt (channel_of c.args.self.now) (next_of c.args.self.now) c.args.moment c.args.piece.now c.go_on-size.result.size
    (Err c.in-Err.fault) c.go_on-size.new.self octets told =
    subst (λ (a : Result ServerEvent ChannelFault). AnswersAt (channel_of c.args.self.now) (next_of c.args.self.now) c.args.moment c.args.piece.now
    c.go_on-size.result.size a c.go_on-size.new.self octets told) c.in-Err.is (c.go_on-size.ensures.answers octets told g) in
    elim c.match-fault.branch [
      | in-OutOfMemory w ↦
          starved_with (channel_of c.args.self.now) (next_of c.args.self.now) c.args.moment c.args.piece.now c.go_on-size.result.size c.args.self.now.end.bound
          c.in-Err.fault c.go_on-size.new.self c.match-fault.self octets told w.in-OutOfMemory.is w.self-is failed
      | in_default w ↦
          subst (λ (y : ServerChannel). AnswersAt (channel_of c.args.self.now) (next_of c.args.self.now) c.args.moment c.args.piece.now c.go_on-size.result.size
          (Err c.in-Err.fault) y octets told) (sym w.self-is) failed
    ]
