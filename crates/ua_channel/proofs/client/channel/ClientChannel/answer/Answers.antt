use Rattle.std.proofs.Common.{refl, sym, ap, subst}
use Rattle.ua_channel.specs.inside.ClientParts.{EndsWithEvent}
use Rattle.ua_channel.specs.declared.client.event.Event.{Event}
use Rattle.ua_channel.specs.declared.client.phase.Phase.{Phase}
use Rattle.ua_channel.specs.declared.client.rules.ClientRules.{ClientRules}
use Rattle.ua_channel.specs.declared.end_core.EndCore.{EndCore}
use Rattle.ua_channel.proofs.client.channel.ClientChannel.answer.Goals as goal

pub returns-in-Ok-clause-same : goal.returns-in-Ok-clause-same
returns-in-Ok-clause-same c = record { limits = refl; url = refl }

pub returns-in-Opened-clause-same : goal.returns-in-Opened-clause-same
returns-in-Opened-clause-same c = record { limits = refl; url = refl }

pub returns-in-Answered-clause-same : goal.returns-in-Answered-clause-same
returns-in-Answered-clause-same c = record { limits = refl; url = refl }

pub returns-in-Aborted-clause-same : goal.returns-in-Aborted-clause-same
returns-in-Aborted-clause-same c = record { limits = refl; url = refl }

pub returns-in-Renewed-clause-same : goal.returns-in-Renewed-clause-same
returns-in-Renewed-clause-same c = record { limits = refl; url = refl }

pub returns-in-Err-clause-answers : goal.returns-in-Err-clause-answers
returns-in-Err-clause-answers c = λ asks octets told h. c.fail.ensures.done

pub returns-in-Err-clause-same : goal.returns-in-Err-clause-same
returns-in-Err-clause-same c = record {
  limits = sym (ap (λ (x : EndCore ClientRules Phase). x.rules.limits) c.fail.ensures.kept);
  url = refl;
}

pub returns-in-Err-clause-next : goal.returns-in-Err-clause-next
returns-in-Err-clause-next c = ap (λ (x : EndCore ClientRules Phase). x.numbers.next) c.fail.ensures.kept

pub returns-in-Aborted-clause-answers : goal.returns-in-Aborted-clause-answers
returns-in-Aborted-clause-answers c = λ asks octets told h.
    (subst (λ (e : Event). EndsWithEvent e c.args.self.now asks octets told) c.in-Aborted.is h).0

pub returns-in-Renewed-clause-answers : goal.returns-in-Renewed-clause-answers
returns-in-Renewed-clause-answers c = λ asks octets told h.
    (subst (λ (e : Event). EndsWithEvent e c.args.self.now asks octets told) c.in-Renewed.is h).0

pub returns-in-Answered-clause-answers : goal.returns-in-Answered-clause-answers
returns-in-Answered-clause-answers c = λ asks octets told h.
    subst (λ (e : Event). EndsWithEvent e c.args.self.now asks octets told) c.in-Answered.is h
