use Rattle.std.proofs.Common.{Option, refl, subst}
use Rattle.std.proofs.lemmas.Result.{IfOk-weaker, on_err_weaker}
use Rattle.ua_channel.specs.Asks.{asked_in}
use Rattle.ua_channel.specs.Asks.Asking.{Call}
use Rattle.ua_channel.specs.ClientAsks.{AnswersFor}
use Rattle.ua_channel.specs.Received.{received}
use Rattle.ua_channel.specs.declared.client.fault.AskFault.{AskFault}
use Rattle.ua_channel.proofs.ClientSending.{call_at, call_closed, called_at}
use Rattle.ua_channel.proofs.ClientStands.{talks_at, stands_asked, stands_kept}
use Rattle.ua_channel.proofs.client.channel.ClientChannel.call.Goals as goal

pub returns-in-Open-clause-stands : goal.returns-in-Open-clause-stands
returns-in-Open-clause-stands c = λ asks octets frames rest h.
    IfOk-weaker c.ask.result _ _ (λ r talks. stands_asked c.args.self.now _ c.in-Open.talking c.ask.new.self asks octets frames rest c.in-Open.is h
    (Call r.id) refl talks)
    (c.ask.ensures.talks c.args.self.now.end.rules.limits (received frames) (asked_in asks)
    (talks_at c.args.self.now c.args.self.now c.in-Open.talking c.ask.new.self asks octets frames rest c.in-Open.is h))

pub returns-in-Open-clause-kept : goal.returns-in-Open-clause-kept
returns-in-Open-clause-kept c = λ asks octets frames rest h.
    on_err_weaker c.ask.result (λ same. stands_kept c.args.self.now _ c.in-Open.talking c.ask.new.self asks octets frames rest c.in-Open.is h refl same.0)
    c.ask.ensures.unchanged

pub returns-in-Open-clause-refuses : goal.returns-in-Open-clause-refuses
returns-in-Open-clause-refuses c = λ asks octets frames rest h.
    subst (λ (o : Option AskFault). AnswersFor o c.ask.result)
    (call_at c.args.self.now asks octets frames rest h c.in-Open.talking c.in-Open.is 0 c.args.body.now) c.ask.ensures.answers

pub returns-in-Open-clause-calls : goal.returns-in-Open-clause-calls
returns-in-Open-clause-calls c = λ asks octets frames rest h.
    IfOk-weaker c.ask.result _ _ (λ r called. called_at c.args.self.now asks octets frames rest h c.in-Open.talking c.in-Open.is _ c.args.body.now r.id
    _ _ called) c.ask.ensures.asked

pub returns-in_default-clause-refuses : goal.returns-in_default-clause-refuses
returns-in_default-clause-refuses c = λ asks octets frames rest h. call_closed c.args.self.now asks octets frames rest h c.in_default.not-Open 0 c.args.body.now
