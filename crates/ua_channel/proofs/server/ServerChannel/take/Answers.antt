use Rattle.std.proofs.Common.{Result, subst}
use Rattle.ua_channel.specs.declared.server_event.ServerEvent.{ServerEvent}
use Rattle.ua_channel.specs.declared.server_fault.ChannelFault.{ChannelFault}
use Rattle.ua_channel.specs.ServerAnswers.{AnswersAt}
use Rattle.ua_channel.specs.ServerStands.{channel_of, next_of}
use Rattle.ua_channel.proofs.server.ServerChannel.take.Goals as goal

pub returns-in-Ok-clause-answers : goal.returns-in-Ok-clause-answers
returns-in-Ok-clause-answers c = λ octets told g.
    subst (λ (a : Result ServerEvent ChannelFault). AnswersAt (channel_of c.args.self.now) (next_of c.args.self.now) c.args.moment c.args.piece.now
    c.advance-size.result.size a c.advance-size.new.self octets told) c.in-Ok.is (c.advance-size.ensures.answers octets told g)

pub returns-in-Err-clause-answers : goal.returns-in-Err-clause-answers
returns-in-Err-clause-answers c = λ octets told g. (
  c.advance-size.result.size,
  subst (λ (a : Result ServerEvent ChannelFault). AnswersAt (channel_of c.args.self.now) (next_of c.args.self.now) c.args.moment c.args.piece.now
      c.advance-size.result.size a c.advance-size.new.self octets told) c.in-Err.is (c.advance-size.ensures.answers octets told g),
)
