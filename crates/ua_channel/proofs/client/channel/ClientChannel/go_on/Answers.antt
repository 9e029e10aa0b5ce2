use Rattle.std.proofs.Common.{◌∙◌, Result, Ok, Err, Some, None, ◌++◌, ap, sym, subst, take}
use Rattle.ua_channel.specs.ClientAnswers.{ClientAnswers}
use Rattle.ua_channel.specs.inside.ClientParts.{outcome_counted}
use Rattle.ua_channel.specs.declared.client.event.ClientEvent.{ClientEvent}
use Rattle.ua_channel.specs.declared.client.fault.ClientTakeFault.{ClientTakeFault}
use Rattle.ua_channel.specs.Client.{client_side}
use Rattle.ua_channel.proofs.Ends.{nexts_as}
use Rattle.ua_channel.proofs.ClientSteps.{answers_event, answers_fault, with_end}
use Rattle.ua_channel.proofs.client.channel.ClientChannel.go_on.Goals as goal

pub returns-in-Ok-None-clause-answers : goal.returns-in-Ok-None-clause-answers
returns-in-Ok-None-clause-answers c = λ asks octets told g.
    nexts_as client_side c.args.self.now.end c.next_event-size.new.self c.args.piece.now c.next_event-size.result.size c.next_event-size.result.outcome
    (Ok None) c.next_event-size.ensures.nexts (c.in-Ok-None.is ∙ ap Ok c.in-Ok-None.field-0-is) asks octets told g

pub returns-in-Ok-Some-clause-answers : goal.returns-in-Ok-Some-clause-answers
returns-in-Ok-Some-clause-answers c = λ asks octets told g.
    let nexts = nexts_as client_side c.args.self.now.end c.next_event-size.new.self c.args.piece.now c.next_event-size.result.size
    c.next_event-size.result.outcome (Ok (Some c.in-Ok-Some.event)) c.next_event-size.ensures.nexts (c.in-Ok-Some.is ∙ ap Ok c.in-Ok-Some.field-0-is) asks
    octets told g in
    answers_event c.args.moment c.args.piece.now c.next_event-size.result.size c.answer.result (with_end c.args.self.now c.next_event-size.new.self)
    c.answer.new.self asks octets told _ nexts.1 (sym c.answer.ensures.same.limits) nexts.2.0
    (c.answer.ensures.answers asks (octets ++ take c.next_event-size.result.size c.args.piece.now) told nexts.2)

pub returns-in-Err-clause-answers : goal.returns-in-Err-clause-answers
returns-in-Err-clause-answers c = λ asks octets told g.
    subst (λ (r : Result ClientEvent ClientTakeFault). ClientAnswers c.args.moment c.args.piece.now (outcome_counted c.next_event-size.result.size r)
    (with_end c.args.self.now c.next_event-size.new.self) asks octets told) (sym c.from_fault.ensures)
    (answers_fault c.args.moment c.args.piece.now c.next_event-size.result.size c.in-Err.fault (with_end c.args.self.now c.next_event-size.new.self) asks octets
    told
    (nexts_as client_side c.args.self.now.end c.next_event-size.new.self c.args.piece.now c.next_event-size.result.size c.next_event-size.result.outcome
    (Err c.in-Err.fault) c.next_event-size.ensures.nexts c.in-Err.is asks octets told g))
