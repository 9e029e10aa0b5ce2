use Rattle.std.proofs.Common.{◌∷◌, [], Option, None, arith, sym, refl, inl, inr, ap, length}
use Rattle.std.proofs.lemmas.List.{length-append}
use Rattle.ua_client.specs.declared.reply.Reply.{Reply}
use Rattle.ua_client.proofs.SlotsFilled.{filled-whole, filled-next-slot, filled-reached}
use Rattle.ua_client.proofs.slots.reach.Goals as goal

pub loop-slots-init : goal.loop-slots-init
loop-slots-init c = record {
  filled = sym (filled-whole (length c.args.slots.now.items) c.args.slots.now.items (omega arith));
  least = omega arith;
  within = inr refl;
}

pub loop-slots-preserved : goal.loop-slots-preserved
loop-slots-preserved c =
    let more = c.in-Ok.ensures.ok in
    let count = ap length more in
    let empty : Option Reply = None in
    let sum = length-append c.loop-slots.slots.items (empty ∷ []) in
    record {
      filled = filled-next-slot c.loop-slots.slots.items c.add_slot.new.slots.items c.args.slots.now.items more c.loop-slots.invariant.filled
          c.loop-slots.invariant.least;
      least = omega (arith, count, sum, c.loop-slots.invariant.least);
      within = inl (omega (arith, count, sum, c.loop-slots-test.true, c.len.ensures, c.loop-slots.slots.ok.0));
    }

pub returns-clause-ok : goal.returns-clause-ok
returns-clause-ok c =
    filled-reached c.loop-slots.slots.items c.args.slots.now.items c.args.index c.loop-slots.invariant.filled c.loop-slots.invariant.within
    (omega (arith, c.loop-slots-test.false, c.len.ensures, c.loop-slots.slots.ok.0))
