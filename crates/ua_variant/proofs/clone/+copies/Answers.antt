use Rattle.std.proofs.Common.{refl, sym, ap, map, ◌∙◌, arith}
use Rattle.ua_variant.specs.Measure.{scalars_count}
use Rattle.ua_variant.specs.View.{elements_of, row, scalar_of}
use Rattle.ua_variant.proofs.Rows.{count_below, seen_more}
use Rattle.ua_variant.proofs.clone.+copies.Goals as goal

pub copy_row-copy_scalars-requires : goal.copy_row-copy_scalars-requires
copy_row-copy_scalars-requires t c =
    let all = ap elements_of (sym c.in-Mixed.is) ∙ c.elements.ensures in
    (omega (arith, ap (λ xs. scalars_count (row xs)) all, ap (λ xs. scalars_count (row (map scalar_of xs))) c.deref.ensures.value), tt)

pub copy_scalars-push_copy-requires : goal.copy_scalars-push_copy-requires
copy_scalars-push_copy-requires t c =
    (omega (arith, count_below c.args.items.now c.loop-s.s-index c.s-item.result (map scalar_of c.args.items.now) refl (omega arith) c.s-item.is), tt)

pub copy_scalars-loop-s-preserved : goal.copy_scalars-loop-s-preserved
copy_scalars-loop-s-preserved t c =
    c.in_ok-push_copy.ensures
    ∙ seen_more c.loop-s.copies.items c.args.items.now c.loop-s.s-index c.s-item.result c.loop-s.invariant (omega arith) c.s-item.is
