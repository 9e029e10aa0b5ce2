use Rattle.std.proofs.Common.{◌≡◌, ◌++◌, ◌∷◌, [], List, Some, length, map, drop, set, sym, ap, arith, ◌∙◌}
use Rattle.std.proofs.lemmas.Bool.{eqb-true}
use Rattle.std.proofs.lemmas.List.{length-append}
use Rattle.ua_client.specs.Slots.{GroupReplies, filled_up}
use Rattle.ua_client.specs.declared.reply.Reply.{Reply}
use Rattle.ua_client.proofs.SlotsFilled.{no-slots, place-few, puts-next}
use Rattle.ua_client.proofs.slots.Slots.put.Goals as goal

pub add_reply-requires : goal.add_reply-requires
add_reply-requires c =
    let i = c.self.inside in
    let few = place-few i.replies.items i.had i.late.items i.count c.self.invariant.0 c.self.invariant.1 c.args.self.now c.self.view_is c.args.place c.requires
    in
    omega (arith, few, c.if-place-len.true, c.len.ensures, i.replies.ok.0, c.self.invariant.0, c.self.invariant.2)

pub invariant_of-self : goal.invariant_of-self
invariant_of-self c =
    let i = c.self.inside in
    let few = place-few i.replies.items i.had i.late.items i.count c.self.invariant.0 c.self.invariant.1 c.args.self.now c.self.view_is c.args.place c.requires
    in
    let none : length i.late.items ≡ 0 = omega (arith, eqb-true _ 0 (sym c.is_empty.ensures ∙ c.if-is_empty.true), i.late.ok.0) in
    let n = ap length c.add_reply.ensures.items in
    let m = length-append i.replies.items (c.args.reply ∷ []) in (
      omega (arith, n, m, c.self.invariant.0),
      omega (arith, n, m, none, few, c.if-place-len.true, c.len.ensures, i.replies.ok.0, c.self.invariant.0),
      omega (arith, c.add_reply.ensures.capacity, c.self.invariant.2),
    )

pub returns-then-place-len-clause-ok : goal.returns-then-place-len-clause-ok
returns-then-place-len-clause-ok c =
    let i = c.self.inside in
    let few = place-few i.replies.items i.had i.late.items i.count c.self.invariant.0 c.self.invariant.1 c.args.self.now c.self.view_is c.args.place c.requires
    in
    let none : i.late.items ≡ [] = no-slots i.late.items (omega (arith, eqb-true _ 0 (sym c.is_empty.ensures ∙ c.if-is_empty.true), i.late.ok.0)) in
    ap (λ (rs : List Reply). filled_up i.count (map Some (drop i.had rs) ++ i.late.items)) c.add_reply.ensures.items
    ∙ (puts-next i.replies.items i.had i.late.items i.count c.args.place c.args.reply none c.self.invariant.0
    (omega (arith, few, c.if-place-len.true, c.len.ensures, i.replies.ok.0, c.self.invariant.0))
    (omega (arith, c.if-place-len.true, c.len.ensures, i.replies.ok.0))
    ∙ ap (λ (g : GroupReplies). set g.slots c.args.place (Some c.args.reply)) c.self.view_is)
