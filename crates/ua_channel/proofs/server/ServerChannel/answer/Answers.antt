use Rattle.std.proofs.Common.{refl, ap, subst}
use Rattle.ua_channel.specs.ServerEvents.{is_closed}
use Rattle.ua_channel.specs.inside.ServerSteps.{StandsWith}
use Rattle.ua_channel.specs.declared.end_core.EndCore.{EndCore}
use Rattle.ua_channel.specs.declared.server.Phase.{Phase}
use Rattle.ua_channel.specs.declared.server_event.Event.{Event}
use Rattle.ua_channel.specs.declared.server_rules.ServerRules.{ServerRules}
use Rattle.ua_channel.proofs.Answering.{no_close, opened_sends}
use Rattle.ua_channel.proofs.server.ServerChannel.answer.Goals as goal

pub returns-in-Ok-clause-answers : goal.returns-in-Ok-clause-answers
returns-in-Ok-clause-answers c = λ octets told h.
    opened_sends c.args.self.now c.step.new.self c.args.moment octets c.in-Ok.octets.items told c.args.event c.in-Opened.request c.in-Opened.handle
    c.in-Opened.token c.in-Opened.lifetime c.number.result c.in-Opened.is h c.number.ensures.number c.step.ensures c.in-Ok.ensures

pub returns-in-Agreed-clause-closes : goal.returns-in-Agreed-clause-closes
returns-in-Agreed-clause-closes c = no_close c.args.event (ap is_closed c.in-Agreed.is)

pub returns-in-Ok-clause-closes : goal.returns-in-Ok-clause-closes
returns-in-Ok-clause-closes c = no_close c.args.event (ap is_closed c.in-Opened.is)

pub returns-in-Err-clause-closes : goal.returns-in-Err-clause-closes
returns-in-Err-clause-closes c = no_close c.args.event (ap is_closed c.in-Opened.is)

pub returns-in-Asked-clause-closes : goal.returns-in-Asked-clause-closes
returns-in-Asked-clause-closes c = no_close c.args.event (ap is_closed c.in-Asked.is)

pub returns-in-Aborted-clause-closes : goal.returns-in-Aborted-clause-closes
returns-in-Aborted-clause-closes c = no_close c.args.event (ap is_closed c.in-Aborted.is)

pub returns-in-Agreed-clause-limits : goal.returns-in-Agreed-clause-limits
returns-in-Agreed-clause-limits c = c.send.ensures.limits

pub returns-in-Agreed-clause-channel : goal.returns-in-Agreed-clause-channel
returns-in-Agreed-clause-channel c = c.send.ensures.channel

pub returns-in-Err-clause-answers : goal.returns-in-Err-clause-answers
returns-in-Err-clause-answers c = λ octets told h. c.fail.ensures.done

pub returns-in-Err-clause-limits : goal.returns-in-Err-clause-limits
returns-in-Err-clause-limits c = ap (λ (x : EndCore ServerRules Phase). x.rules.limits) c.fail.ensures.kept

pub returns-in-Err-clause-channel : goal.returns-in-Err-clause-channel
returns-in-Err-clause-channel c = ap (λ (x : EndCore ServerRules Phase). x.rules.channel) c.fail.ensures.kept

pub returns-in-Aborted-clause-answers : goal.returns-in-Aborted-clause-answers
returns-in-Aborted-clause-answers c = λ octets told h.
    ((subst (λ (e : Event). StandsWith e c.args.self.now octets told) c.in-Aborted.is h).0, refl)
