use Rattle.std.proofs.Common.{◌∙◌, Ok, Err, Some, None, ◌++◌, ap, take}
use Rattle.ua_channel.specs.declared.end_core.EndCore.{EndCore}
use Rattle.ua_channel.specs.declared.server.Phase.{Phase}
use Rattle.ua_channel.specs.declared.server_rules.ServerRules.{ServerRules}
use Rattle.ua_channel.specs.ServerStands.{server_side, channel_of, next_of}
use Rattle.ua_channel.proofs.Answering.{answers_nothing, answers_event, answers_fault}
use Rattle.ua_channel.proofs.Ends.{nexts_as}
use Rattle.ua_channel.proofs.Servers.{of_end}
use Rattle.ua_channel.proofs.server.ServerChannel.go_on.Goals as goal

pub returns-in-Ok-None-clause-answers : goal.returns-in-Ok-None-clause-answers
returns-in-Ok-None-clause-answers c = λ octets told g.
    answers_nothing (channel_of c.args.self.now) (next_of c.args.self.now) c.args.moment c.args.piece.now c.next_event-size.result.size
    (of_end c.next_event-size.new.self) octets told
    (nexts_as server_side c.args.self.now.end c.next_event-size.new.self c.args.piece.now c.next_event-size.result.size c.next_event-size.result.outcome
    (Ok None) c.next_event-size.ensures.nexts (c.in-Ok-None.is ∙ ap Ok c.in-Ok-None.field-0-is) tt octets told g)
    (ap (λ (x : EndCore ServerRules Phase). x.numbers.next) c.next_event-size.ensures.kept)

pub returns-in-Ok-Some-clause-answers : goal.returns-in-Ok-Some-clause-answers
returns-in-Ok-Some-clause-answers c = λ octets told g.
    answers_event (channel_of c.args.self.now) (channel_of (of_end c.next_event-size.new.self)) (next_of c.args.self.now)
    (next_of (of_end c.next_event-size.new.self)) c.args.moment c.args.piece.now c.next_event-size.result.size c.in-Ok-Some.event c.answer.result
    (of_end c.next_event-size.new.self) c.answer.new.self octets told
    (ap (λ (x : EndCore ServerRules Phase). x.rules.channel) c.next_event-size.ensures.kept)
    (ap (λ (x : EndCore ServerRules Phase). x.numbers.next) c.next_event-size.ensures.kept)
    (nexts_as server_side c.args.self.now.end c.next_event-size.new.self c.args.piece.now c.next_event-size.result.size c.next_event-size.result.outcome
    (Ok (Some c.in-Ok-Some.event)) c.next_event-size.ensures.nexts (c.in-Ok-Some.is ∙ ap Ok c.in-Ok-Some.field-0-is) tt octets told g)
    (c.answer.ensures.answers (octets ++ take c.next_event-size.result.size c.args.piece.now) told) c.answer.ensures.limits c.answer.ensures.channel
    c.answer.ensures.closes

pub returns-in-Err-clause-answers : goal.returns-in-Err-clause-answers
returns-in-Err-clause-answers c = λ octets told g.
    answers_fault (channel_of c.args.self.now) (next_of c.args.self.now) c.args.moment c.args.piece.now c.next_event-size.result.size c.in-Err.fault
    c.from_end.result (of_end c.next_event-size.new.self) octets told
    (nexts_as server_side c.args.self.now.end c.next_event-size.new.self c.args.piece.now c.next_event-size.result.size c.next_event-size.result.outcome
    (Err c.in-Err.fault) c.next_event-size.ensures.nexts c.in-Err.is tt octets told g) c.from_end.ensures
