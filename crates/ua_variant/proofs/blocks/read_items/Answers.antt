use Rattle.std.proofs.Common.{◌≡◌, ◌≤◌, ◌+◌, ◌-◌, ◌*◌, drop, map, sym, ap, ◌∙◌, arith, length-append}
use Rattle.std.proofs.lemmas.List.{length-drop, length-take-le}
use Rattle.std.proofs.lemmas.Result.{err_from_is_err_and}
use Rattle.ua_variant.specs.Blocks.{row_behind}
use Rattle.ua_variant.specs.Data.{leaf}
use Rattle.ua_variant.specs.Decoding.{row_at}
use Rattle.ua_variant.specs.Packed.{packed_leaves}
use Rattle.ua_variant.specs.View.{row}
use Rattle.ua_variant.specs.declared.packed.Packed.{Packed}
use Rattle.ua_variant.proofs.BlocksRead.{leaves_at, leaf_ends, fault_goes}
use Rattle.ua_variant.proofs.ValuesRead.{many_within}
use Rattle.ua_variant.proofs.blocks.read_items.Goals as goal

pub overflow_mul-block : goal.overflow_mul-block
overflow_mul-block g c = omega (arith, many_within c.width-width.result c.min-n.result 1024 c.width-width.ensures.some (omega arith))

pub slice_bounds-block-end : goal.slice_bounds-block-end
slice_bounds-block-end g c = omega (
  arith,
  c.loop-done.invariant.block,
  many_within c.width-width.result c.min-n.result 1024 c.width-width.ensures.some (omega arith),
)

pub read_part-requires-clause-whole : goal.read_part-requires-clause-whole
read_part-requires-clause-whole g c =
    length-take-le (c.min-n.result * c.width-width.result) c.loop-done.block (omega (
      arith,
      c.loop-done.invariant.block,
      many_within c.width-width.result c.min-n.result 1024 c.width-width.ensures.some (omega arith),
    )) ∙ ap (λ w. c.min-n.result * w) c.width-width.ensures.octets

pub loop-done-preserved : goal.loop-done-preserved
loop-done-preserved g c =
    let f = g.T.Leaf.as_leaf in
    let p = leaves_at g.T.Leaf.kind in
    let n = c.min-n.result in
    let w = c.width-width.result in
    let more = c.args.count - c.loop-done.done - n in
    let whole : n + more ≡ c.args.count - c.loop-done.done = omega arith in
    let left : c.args.count - (c.loop-done.done + n) ≡ more = omega arith in
    let room : n * w ≤ 1024 = many_within w n 1024 c.width-width.ensures.some (omega arith) in
    record {
      so_far = ap (λ k. row_behind (map leaf (map f c.read_part.new.items.items)) k p (g.S.Source.octets c.read_part.new.src)) left
          ∙ sym (c.in_ok-read_part.ensures.exact more)
          ∙ ap (λ k. row_behind (map leaf (map f c.loop-done.items.items)) k p (g.S.Source.octets c.loop-done.src)) whole
          ∙ c.loop-done.invariant.so_far;
      behind = λ start h. c.in_ok-read_part.ensures.behind start (c.loop-done.invariant.behind start h);
      done = omega arith;
      block = omega (
        arith,
        room,
        c.loop-done.invariant.block,
        length-append c.read_part.new.block (drop (n * w) c.loop-done.block),
        length-drop (n * w) c.loop-done.block,
        length-take-le (n * w) c.loop-done.block (omega (arith, room, c.loop-done.invariant.block)),
        c.read_part.auto.block,
      );
    }

pub returns-in_err-read_part-clause-exact : goal.returns-in_err-read_part-clause-exact
returns-in_err-read_part-clause-exact g c =
    let f = g.T.Leaf.as_leaf in
    let p = leaves_at g.T.Leaf.kind in
    let fault = err_from_is_err_and c.from_residual-in_err-read_part.result c.from_residual-in_err-read_part.ensures.1 in
    let n = c.min-n.result in
    let more = c.args.count - c.loop-done.done - n in
    let whole : n + more ≡ c.args.count - c.loop-done.done = omega arith in
    let a = map leaf (map f c.loop-done.items.items) in
    let old = g.S.Source.octets c.loop-done.src in
    rw (c.requires.own, fault.1, fault.2) (fault_goes (Unit {0}) (λ (q : Packed). row (map leaf (packed_leaves q))) (row_at c.args.count p)
    (row_behind a (n + more) p old) (row_behind (map leaf (map f c.read_part.new.items.items)) more p (g.S.Source.octets c.read_part.new.src))
    (g.S.Source.octets c.args.src.now) (g.S.Source.octets c.read_part.new.src) c.in_err-read_part.field-0.0
    (λ none. sym c.loop-done.invariant.so_far ∙ sym (ap (λ k. row_behind a k p old) whole) ∙ none)
    (c.in_err-read_part.ensures.exact more))

pub returns-clause-exact : goal.returns-clause-exact
returns-clause-exact g c =
    let p = leaves_at g.T.Leaf.kind in
    let a = map leaf (map g.T.Leaf.as_leaf c.loop-done.items.items) in
    let rest : c.args.count - c.loop-done.done ≡ 0 = omega arith in
    rw (c.requires.own, c.pack.ensures.leaves)
    (leaf_ends p a (c.args.count - c.loop-done.done) (g.S.Source.octets c.loop-done.src) (row_at c.args.count p (g.S.Source.octets c.args.src.now)) rest
    c.loop-done.invariant.so_far)
