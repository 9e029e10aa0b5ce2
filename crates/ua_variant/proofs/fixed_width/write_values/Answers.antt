use Rattle.std.proofs.Common.{◌≡◌, ◌*◌, ◌+◌, ◌≤◌, length, drop, refl, ap, ◌∙◌, arith, length-append}
use Rattle.std.proofs.lemmas.List.{length-drop, take_rest}
use Rattle.ua_variant.specs.Leaf.{leaf_canonical}
use Rattle.ua_variant.specs.Least.{least_octets}
use Rattle.ua_variant.proofs.ValuesRead.{room_for, write_more}
use Rattle.ua_variant.proofs.fixed_width.write_values.Goals as goal

pub values-preserved : goal.values-preserved
values-preserved g c =
    let f = g.T.Leaf.as_leaf in
    let w = least_octets g.T.Leaf.kind in
    let i = c.values.i in
    let dst = c.values.octets in
    let x = c.index-values-i.result in
    let bs = leaf_canonical (f x) in
    let len = c.values.auto.octets in
    let room : w * i + w ≤ length dst = room_for w i (length c.args.values.now) (length dst) c.values-test.true (len ∙ c.requires.whole) in
    let written = rw (c.width-width.ensures.octets, take_rest dst (w * i)) at c.put.ensures.written in
    let width : length bs ≡ w = omega (
      arith,
      room,
      ap length written,
      length-append bs (drop w (drop (w * i) dst)),
      length-drop w (drop (w * i) dst),
      length-drop (w * i) dst,
      ap length (take_rest dst (w * i)),
      rw (c.width-width.ensures.octets) at c.put.auto.octets,
    ) in
    rw (c.width-width.ensures.octets, written)
    (write_more f w i dst bs _ _ c.args.values.now x (omega (arith, room)) (omega arith) c.index-values-i.is width refl c.values.invariant)
