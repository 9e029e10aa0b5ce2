use Rattle.std.proofs.Common.{◌≡◌, ◌+◌, ◌-◌, ◌*◌, ◌≤◌, length, take, drop, sym, ap, ◌∙◌, arith, length-append}
use Rattle.std.proofs.lemmas.List.{length-drop, length-take-le}
use Rattle.ua_variant.specs.Least.{least_octets}
use Rattle.ua_variant.proofs.ValuesRead.{many_within, values_after}
use Rattle.ua_variant.proofs.packed.append_items.Goals as goal

pub overflow_mul-block : goal.overflow_mul-block
overflow_mul-block g c = omega (arith, many_within c.width-width.result c.min-n.result 1024 c.width-width.ensures.some (omega arith))

pub slice_bounds-block-end : goal.slice_bounds-block-end
slice_bounds-block-end g c = omega (
  arith,
  c.loop-done.invariant.block,
  many_within c.width-width.result c.min-n.result 1024 c.width-width.ensures.some (omega arith),
)

pub write_values-requires : goal.write_values-requires
write_values-requires g c =
    let n = c.min-n.result in
    let w = c.width-width.result in
    let d = c.loop-done.done in
    let rest = drop d c.args.items.now in
    let room : n * w ≤ length c.loop-done.block = omega (
      arith,
      c.loop-done.invariant.block,
      many_within w n 1024 c.width-width.ensures.some (omega arith),
    ) in
    let part : length (take (d + n - d) rest) ≡ n = length-take-le (d + n - d) rest (omega (arith, length-drop d c.args.items.now)) ∙ omega arith in
    record {
      whole = length-take-le (n * w) c.loop-done.block room ∙ ap (λ k. n * k) c.width-width.ensures.octets
          ∙ ap (λ k. k * least_octets g.T.Leaf.kind) (sym part);
    }

pub loop-done-preserved : goal.loop-done-preserved
loop-done-preserved g c =
    let f = g.T.Leaf.as_leaf in
    let n = c.min-n.result in
    let w = c.width-width.result in
    let room : n * w ≤ 1024 = many_within w n 1024 c.width-width.ensures.some (omega arith) in
    let part : c.loop-done.done + n - c.loop-done.done ≡ n = omega arith in
    record {
      so_far = c.in_ok-extend_from_slice.ensures.items
          ∙ values_after f c.args.out.now.items c.loop-done.out.items c.write_values.new.octets c.loop-done.done n c.args.items.now
          c.loop-done.invariant.so_far (rw (part) at c.write_values.ensures.written);
      done = omega arith;
      block = omega (
        arith,
        room,
        c.loop-done.invariant.block,
        length-append c.write_values.new.octets (drop (n * w) c.loop-done.block),
        length-drop (n * w) c.loop-done.block,
        length-take-le (n * w) c.loop-done.block (omega (arith, room, c.loop-done.invariant.block)),
        c.write_values.auto.octets,
      );
    }
