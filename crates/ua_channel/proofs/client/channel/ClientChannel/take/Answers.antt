use Rattle.std.proofs.Common.{Result, refl, subst}
use Rattle.ua_channel.specs.ClientAnswers.{ClientAnswers}
use Rattle.ua_channel.specs.inside.ClientParts.{outcome_counted}
use Rattle.ua_channel.specs.declared.client.event.ClientEvent.{ClientEvent}
use Rattle.ua_channel.specs.declared.client.fault.ClientTakeFault.{ClientTakeFault}
use Rattle.ua_channel.proofs.ClientSteps.{answers_bound}
use Rattle.ua_channel.proofs.client.channel.ClientChannel.take.Goals as goal

pub returns-in-Ok-clause-answers : goal.returns-in-Ok-clause-answers
returns-in-Ok-clause-answers c = λ asks octets told g.
    subst (λ (a : Result ClientEvent ClientTakeFault). ClientAnswers c.args.moment c.args.piece.now (outcome_counted c.go_on-size.result.size a)
    c.go_on-size.new.self
    asks octets told) c.in-Ok.is (c.go_on-size.ensures.answers asks octets told g)

pub returns-in-Err-clause-answers : goal.returns-in-Err-clause-answers
returns-in-Err-clause-answers c = λ asks octets told g.
    answers_bound c.args.moment c.args.piece.now c.go_on-size.new.self _ c.args.self.now.end.bound asks octets told c.in-Err.fault refl
    (subst (λ (a : Result ClientEvent ClientTakeFault). ClientAnswers c.args.moment c.args.piece.now (outcome_counted c.go_on-size.result.size a)
    c.go_on-size.new.self
    asks octets told) c.in-Err.is (c.go_on-size.ensures.answers asks octets told g))
