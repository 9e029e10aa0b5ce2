use Rattle.std.proofs.Common.{ap, ◌∙◌, ◌++◌}
use Rattle.ua_client.specs.Replies.{front_of}
use Rattle.ua_client.specs.Slots.{GroupReplies}
use Rattle.ua_client.proofs.SlotsFilled.{slots-front}
use Rattle.ua_client.proofs.slots.Slots.into_replies.Goals as goal

pub returns : goal.returns
returns c =
    let i = c.self.inside in
    c.append_front.ensures
    ∙ (slots-front i.replies.items i.had i.late.items i.count ∙ ap (λ (g : GroupReplies). g.had ++ front_of g.slots) c.self.view_is)
