use Rattle.ua_frame.specs.declared.kind.Kind.TheVariants.{Hel, Ack, Msg, Opn, Clo}
use Rattle.ua_frame.specs.declared.kind.Kind.TheVariants as kind
use Rattle.ua_frame.specs.Messages.{hello, ack, error}
use Rattle.ua_pair.specs.Lines.{hello_line, ack_line, error_line}
use Rattle.ua_pair.proofs.Refusals.{greeting_judged, judged_alone, judged_kind}
use Rattle.ua_pair.proofs.Standings.{stands_ack, stands_error, stands_hello}
use Rattle.ua_pair.proofs.teller.Teller.push_frame.Goals as goal

pub returns-in-Hel-clause-judged : goal.returns-in-Hel-clause-judged
returns-in-Hel-clause-judged c = λ before more s place pending.
    judged_alone c.args.self.now.options _ _ c.push_greeting.result c.without_pending.result _ _ more c.without_pending.ensures pending
    (judged_kind Hel c.args.self.now.options before c.args.place c.args.frame _ _ _ c.in-Hel.is place
    (greeting_judged hello (hello_line c.args.place) _ c.args.frame.body _ _ _ _ _ c.deref.ensures c.frame_size-size.ensures c.push_greeting.ensures))

pub returns-in-Ack-clause-judged : goal.returns-in-Ack-clause-judged
returns-in-Ack-clause-judged c = λ before more s place pending.
    judged_alone c.args.self.now.options _ _ c.push_greeting-in-Ack.result c.without_pending-in-Ack.result _ _ more c.without_pending-in-Ack.ensures pending
    (judged_kind Ack c.args.self.now.options before c.args.place c.args.frame _ _ _ c.in-Ack.is place
    (greeting_judged ack (ack_line c.args.place) _ c.args.frame.body _ _ _ _ _ c.deref-in-Ack.ensures c.frame_size-size.ensures
    c.push_greeting-in-Ack.ensures))

pub returns-in-Err-clause-judged : goal.returns-in-Err-clause-judged
returns-in-Err-clause-judged c = λ before more s place pending.
    judged_alone c.args.self.now.options _ _ c.push_greeting-in-Err.result c.without_pending-in-Err.result _ _ more c.without_pending-in-Err.ensures pending
    (judged_kind kind.Err c.args.self.now.options before c.args.place c.args.frame _ _ _ c.in-Err.is place
    (greeting_judged error (error_line c.args.self.now.options.names c.args.place) _ c.args.frame.body _ _ _ _ _ c.deref-in-Err.ensures
    c.frame_size-size.ensures c.push_greeting-in-Err.ensures))

pub returns-in-Msg-clause-judged : goal.returns-in-Msg-clause-judged
returns-in-Msg-clause-judged c = λ before more s place pending.
    judged_kind Msg c.args.self.now.options before c.args.place c.args.frame _ _ _ c.in-Msg.is place
    (c.push_message.ensures.judged before more s pending)

pub returns-in-Opn-clause-judged : goal.returns-in-Opn-clause-judged
returns-in-Opn-clause-judged c = λ before more s place pending.
    judged_kind Opn c.args.self.now.options before c.args.place c.args.frame _ _ _ c.in-Opn.is place
    (c.push_opening.ensures.judged before more s pending)

pub returns-in-Clo-clause-judged : goal.returns-in-Clo-clause-judged
returns-in-Clo-clause-judged c = λ before more s place pending.
    judged_alone c.args.self.now.options _ _ c.push_close.result c.without_pending-in-Clo.result _ _ more c.without_pending-in-Clo.ensures pending
    (judged_kind Clo c.args.self.now.options before c.args.place c.args.frame _ _ _ c.in-Clo.is place (c.push_close.ensures.judged before s))

pub returns-in-Hel-clause-stands : goal.returns-in-Hel-clause-stands
returns-in-Hel-clause-stands c = λ before s. stands_hello c.args.self.now before c.args.frame c.without_pending.result c.in-Hel.is s

pub returns-in-Ack-clause-stands : goal.returns-in-Ack-clause-stands
returns-in-Ack-clause-stands c = λ before s. stands_ack c.args.self.now before c.args.frame c.without_pending-in-Ack.result c.in-Ack.is s

pub returns-in-Err-clause-stands : goal.returns-in-Err-clause-stands
returns-in-Err-clause-stands c = λ before s. stands_error c.args.self.now before c.args.frame c.without_pending-in-Err.result c.in-Err.is s
