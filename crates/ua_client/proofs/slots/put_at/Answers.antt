use Rattle.std.proofs.Common.{◌+◌, length, arith, ap}
use Rattle.ua_client.proofs.SlotsFilled.{filled-least}
use Rattle.ua_client.proofs.slots.put_at.Goals as goal

pub set_slot-requires : goal.set_slot-requires
set_slot-requires c =
    let n = ap length c.in-Ok.ensures.ok in
    let m = filled-least (c.args.index + 1) c.args.slots.now.items in
    omega (arith, n, m)
