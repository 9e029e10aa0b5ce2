use Rattle.std.proofs.Common.{ap, sym, subst, ◌∙◌, ◌<◌, length, take}
use Rattle.ua_concurrent.specs.Talk.{Talk}
use Rattle.ua_concurrent.proofs.Stepping.{Laws, behind_change, rest_of, went_starved, went_stepped}
use Rattle.ua_concurrent.proofs.conversation.Conversation.step.Goals as goal

pub returns-in-Ok-clause-went : goal.returns-in-Ok-clause-went
returns-in-Ok-clause-went g c = λ es first. rw (← c.self.view_is) (λ s.
    let laws : Laws = record {
      sent = c.events_are_answered_in_parts.ensures.sent;
      told = c.events_are_answered_in_parts.ensures.told;
      changed = c.one_of_several_connections_stands_by_itself.ensures.changed;
      silent = c.one_of_several_connections_stands_by_itself.ensures.silent;
    } in
    let going = ap (λ (t : Talk _). t.phase) c.self.view_is ∙ c.requires.going in
    let nodes = c.before_step-moment.new.services.nodes in
    let changed = c.before_step-moment.new.services in
    let changed_is = c.before_step-moment.ensures.nodes in
    let here = behind_change g.S.Socket.seen g.A.Application.acts laws es first c.args.services.now nodes _ going s changed changed_is in
    let old = here.0.goes in
    let piece_is = rest_of c.self.inside.stepped _ _ (ap (take c.self.inside.filled) c.deref.ensures.value) in
    let some = subst (λ (t : Talk _). 0 < length t.unread) (sym c.self.view_is) c.requires.some in
    went_stepped g.S.Socket.seen g.A.Application.acts laws es first c.args.services.now nodes _ going s changed changed_is _
    c.before_step-moment.result _ piece_is c.step_telling.new.self
    c.step_telling.new.services _ _ _ c.before_step-moment.ensures.acts c.in-Ok.step c.keep.new.self
    (c.in-Ok.ensures.among _ _ _ _ _ here.0) c.step_telling.new.written some c.in-Ok.ensures.progress
    (c.in-Ok.ensures.now _ _ old) (c.in-Ok.ensures.stores _ _ old) c.after_step.ensures c.keep.ensures)

pub returns-clause-went : goal.returns-clause-went
returns-clause-went g c = λ es first. rw (← c.self.view_is) (λ s.
    let laws : Laws = record {
      sent = c.events_are_answered_in_parts.ensures.sent;
      told = c.events_are_answered_in_parts.ensures.told;
      changed = c.one_of_several_connections_stands_by_itself.ensures.changed;
      silent = c.one_of_several_connections_stands_by_itself.ensures.silent;
    } in
    let going = ap (λ (t : Talk _). t.phase) c.self.view_is ∙ c.requires.going in
    let nodes = c.before_step-moment.new.services.nodes in
    let changed = c.before_step-moment.new.services in
    let changed_is = c.before_step-moment.ensures.nodes in
    let here = behind_change g.S.Socket.seen g.A.Application.acts laws es first c.args.services.now nodes _ going s changed changed_is in
    went_starved g.S.Socket.seen g.A.Application.acts laws es first c.args.services.now nodes _ going s changed changed_is _
    c.before_step-moment.result _ (rest_of c.self.inside.stepped _ _ (ap (take c.self.inside.filled) c.deref.ensures.value)) c.step_telling.new.self
    c.step_telling.new.services _ c.before_step-moment.new.self c.before_step-moment.new.self c.before_step-moment.ensures.acts c.in-Err.field-0
    (c.in-Err.ensures.among _ _ _ _ _ here.0))
