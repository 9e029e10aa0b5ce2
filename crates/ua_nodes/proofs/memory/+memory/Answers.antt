use Rattle.std.proofs.Common.{arith, map, ap, sym, ◌∙◌}
use Rattle.std.proofs.lemmas.Grind.{common_steps}
use Rattle.ua_variant.specs.View.{scalar_of, elements_of}
use Rattle.ua_nodes.proofs.Memories.{count_below, memory_after, packed_memory}
use Rattle.ua_nodes.proofs.memory.+memory.Goals as goal

pub row_bytes-returns-in-Packed : goal.row_bytes-returns-in-Packed
row_bytes-returns-in-Packed t c =
    grind (arith, common_steps, packed_memory c.in-Packed.field-0 c.args.items.now (ap elements_of (sym c.in-Packed.is) ∙ c.elements.ensures))

pub row_bytes-scalar_bytes-requires : goal.row_bytes-scalar_bytes-requires
row_bytes-scalar_bytes-requires t c = (
  omega (
    arith,
    count_below c.deref-s-items.result.now c.loop-s.s-index c.s-item.result c.args.items.now (ap (map scalar_of) c.deref-s-items.ensures.value
        ∙ ap elements_of (sym c.in-Mixed.is) ∙ c.elements.ensures) (omega arith) c.s-item.is,
  ),
  tt,
)

pub row_bytes-loop-s-preserved : goal.row_bytes-loop-s-preserved
row_bytes-loop-s-preserved t c =
    grind (arith, common_steps, memory_after c.deref-s-items.result.now c.loop-s.s-index c.s-item.result (omega arith) c.s-item.is)
