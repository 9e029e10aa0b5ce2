use Rattle.std.proofs.Common.{Option, refl, subst}
use Rattle.std.proofs.lemmas.Result.{IfOk-weaker}
use Rattle.ua_channel.specs.Asks.{asked_in}
use Rattle.ua_channel.specs.Asks.Asking.{Renewal}
use Rattle.ua_channel.specs.ClientAsks.{AnswersFor}
use Rattle.ua_channel.specs.Received.{received}
use Rattle.ua_channel.specs.declared.client.fault.AskFault.{AskFault}
use Rattle.ua_channel.proofs.ClientSending.{renewal_at, renewal_closed, renewed_at}
use Rattle.ua_channel.proofs.ClientStands.{talks_at, stands_asked}
use Rattle.ua_channel.proofs.client.channel.ClientChannel.renew.Goals as goal

pub returns-in-Open-clause-stands : goal.returns-in-Open-clause-stands
returns-in-Open-clause-stands c = λ asks octets frames rest h.
    IfOk-weaker c.renew.result _ _ (λ r talks. stands_asked c.args.self.now _ c.in-Open.talking c.renew.new.self asks octets frames rest c.in-Open.is h
    (Renewal r.0) refl talks)
    (c.renew.ensures.talks c.args.self.now.end.rules.limits (received frames) (asked_in asks)
    (talks_at c.args.self.now c.args.self.now c.in-Open.talking c.renew.new.self asks octets frames rest c.in-Open.is h))

pub returns-in-Open-clause-refuses : goal.returns-in-Open-clause-refuses
returns-in-Open-clause-refuses c = λ asks octets frames rest h.
    subst (λ (o : Option AskFault). AnswersFor o c.renew.result) (renewal_at c.args.self.now asks octets frames rest h c.in-Open.talking c.in-Open.is)
    c.renew.ensures.answers

pub returns-in-Open-clause-renews : goal.returns-in-Open-clause-renews
returns-in-Open-clause-renews c = λ asks octets frames rest h.
    IfOk-weaker c.renew.result _ _ (λ r renewed. renewed_at c.args.self.now asks octets frames rest h c.in-Open.talking c.in-Open.is _ c.args.moment r.0
    r.1.items _ renewed) c.renew.ensures.asked

pub returns-in_default-clause-refuses : goal.returns-in_default-clause-refuses
returns-in_default-clause-refuses c = λ asks octets frames rest h. renewal_closed c.args.self.now asks octets frames rest h c.in_default.not-Open
