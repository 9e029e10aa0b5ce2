use Rattle.std.proofs.Common.{◌≡◌, ◌-◌, ◌++◌, List, Some, length, map, drop, set, ap, arith, ◌∙◌}
use Rattle.ua_client.specs.Slots.{GroupReplies, filled_up}
use Rattle.ua_client.specs.declared.reply.Reply.{Reply}
use Rattle.ua_client.proofs.SlotsFilled.{puts-over, place-few, late-kept, late-put, late-same}
use Rattle.ua_client.proofs.slots.Slots.put_late.Goals as goal

pub returns-then-place-came-clause-ok : goal.returns-then-place-came-clause-ok
returns-then-place-came-clause-ok c =
    let i = c.self.inside in
    ap (λ (rs : List Reply). filled_up i.count (map Some (drop i.had rs) ++ i.late.items)) c.replace_reply.ensures.items
    ∙ (puts-over i.replies.items i.had i.late.items i.count c.args.place c.args.reply
    (omega (arith, c.if-place-came.true, c.len.ensures, i.replies.ok.0))
    ∙ ap (λ (g : GroupReplies). set g.slots c.args.place (Some c.args.reply)) c.self.view_is)

pub invariant_of-self-2 : goal.invariant_of-self-2
invariant_of-self-2 c =
    let i = c.self.inside in
    let at : c.args.place - (c.len.result - i.had) ≡ c.args.place - (length i.replies.items - i.had) = omega (arith, c.len.ensures, i.replies.ok.0) in
    let few = place-few i.replies.items i.had i.late.items i.count c.self.invariant.0 c.self.invariant.1 c.args.self.now c.self.view_is c.args.place c.requires
    in (
      c.self.invariant.0,
      late-kept i.replies.items i.had i.late.items i.count c.args.place c.args.reply (c.args.place - (c.len.result - i.had)) c.put_at.new.slots.items at
          (omega (arith, c.if-place-came.false, c.len.ensures, i.replies.ok.0)) few c.put_at.result c.put_at.ensures.ok c.put_at.ensures.within
          c.self.invariant.0 c.self.invariant.1,
      c.self.invariant.2,
    )

pub returns-clause-ok : goal.returns-clause-ok
returns-clause-ok c =
    let i = c.self.inside in
    let at : c.args.place - (c.len.result - i.had) ≡ c.args.place - (length i.replies.items - i.had) = omega (arith, c.len.ensures, i.replies.ok.0) in
    let few = place-few i.replies.items i.had i.late.items i.count c.self.invariant.0 c.self.invariant.1 c.args.self.now c.self.view_is c.args.place c.requires
    in
    rw (← c.self.view_is) (late-put i.replies.items i.had i.late.items i.count c.args.place c.args.reply (c.args.place - (c.len.result - i.had))
    c.put_at.new.slots.items at (omega (arith, c.if-place-came.false, c.len.ensures, i.replies.ok.0)) few c.put_at.result c.put_at.ensures.ok)

pub returns-clause-err : goal.returns-clause-err
returns-clause-err c =
    let i = c.self.inside in
    let at : c.args.place - (c.len.result - i.had) ≡ c.args.place - (length i.replies.items - i.had) = omega (arith, c.len.ensures, i.replies.ok.0) in
    let few = place-few i.replies.items i.had i.late.items i.count c.self.invariant.0 c.self.invariant.1 c.args.self.now c.self.view_is c.args.place c.requires
    in
    rw (← c.self.view_is) (late-same i.replies.items i.had i.late.items i.count c.args.place c.args.reply (c.args.place - (c.len.result - i.had))
    c.put_at.new.slots.items at (omega (arith, c.if-place-came.false, c.len.ensures, i.replies.ok.0)) few c.put_at.result c.put_at.ensures.err
    c.put_at.ensures.within)
