use Rattle.std.proofs.Common.{arith, map, ap, sym, ◌∙◌}
use Rattle.std.proofs.lemmas.Grind.{common_steps}
use Rattle.ua_variant.specs.View.{scalar_of, elements_of}
use Rattle.ua_variant.proofs.Rows.{count_below, count_after, depth_after}
use Rattle.ua_variant.specs.Packed.{packed_leaves}
use Rattle.ua_variant.proofs.PackedRows.{packed_count, packed_depth}
use Rattle.ua_variant.proofs.measure.+measures.Goals as goal

pub measure_row-returns-in-Packed-clause-depth : goal.measure_row-returns-in-Packed-clause-depth
measure_row-returns-in-Packed-clause-depth t c =
    grind (arith, common_steps, packed_depth (packed_leaves c.in-Packed.packed) c.args.items.now (ap elements_of (sym c.in-Packed.is) ∙ c.elements.ensures))

pub measure_row-returns-in-Packed-clause-count : goal.measure_row-returns-in-Packed-clause-count
measure_row-returns-in-Packed-clause-count t c =
    grind (
      arith,
      common_steps,
      c.len.ensures,
      packed_count (packed_leaves c.in-Packed.packed) c.args.items.now (ap elements_of (sym c.in-Packed.is)
          ∙ c.elements.ensures),
    )

pub measure_row-measure_scalar-depth-requires : goal.measure_row-measure_scalar-depth-requires
measure_row-measure_scalar-depth-requires t c = (
  omega (
    arith,
    count_below c.deref-s-items.result.now c.loop-s.s-index c.s-item.result c.args.items.now (ap (map scalar_of) c.deref-s-items.ensures.value
        ∙ ap elements_of (sym c.in-Mixed.is) ∙ c.elements.ensures) (omega arith) c.s-item.is,
  ),
  tt,
)

pub measure_row-loop-s-preserved : goal.measure_row-loop-s-preserved
measure_row-loop-s-preserved t c = record {
  depth = grind (arith, common_steps, depth_after c.deref-s-items.result.now c.loop-s.s-index c.s-item.result (omega arith) c.s-item.is);
  count = grind (arith, common_steps, count_after c.deref-s-items.result.now c.loop-s.s-index c.s-item.result (omega arith) c.s-item.is);
}
