use Rattle.std.proofs.Common.{ap, arith, ◌∙◌, List, Option}
use Rattle.std.specs.Prelude.{is_none}
use Rattle.std.specs.List.{list_any}
use Rattle.ua_client.specs.Slots.{GroupReplies}
use Rattle.ua_client.specs.declared.reply.Reply.{Reply}
use Rattle.ua_client.proofs.SlotsFilled.{slots-short, slots-reached}
use Rattle.ua_client.proofs.slots.Slots.is_waiting.Goals as goal

pub returns-then-len-self : goal.returns-then-len-self
returns-then-len-self c =
    let i = c.self.inside in
    slots-short i.replies.items i.had i.late.items i.count
    (omega (arith, c.if-len-self.true, c.len.ensures, c.len-2.ensures, i.replies.ok.0, i.late.ok.0))
    ∙ ap (λ (g : GroupReplies). list_any is_none g.slots) c.self.view_is

pub returns : goal.returns
returns c =
    let i = c.self.inside in
    c.lacks_reply.ensures
    ∙ (ap (λ (ss : List (Option Reply)). list_any is_none ss) c.deref.ensures.value
    ∙ (slots-reached i.replies.items i.had i.late.items i.count
    (omega (arith, c.if-len-self.false, c.len.ensures, c.len-2.ensures, i.replies.ok.0, i.late.ok.0))
    ∙ ap (λ (g : GroupReplies). list_any is_none g.slots) c.self.view_is))
