use Rattle.std.proofs.Common.{ap, ap₂, sym, ◌∙◌, arith, ◌&&◌, eqb, map}
use Rattle.std.proofs.lemmas.Grind.{common_steps}
use Rattle.ua_variant.specs.Encodable.{kind_of_scalar, scalar_fits}
use Rattle.ua_variant.specs.Judging.{levels_if}
use Rattle.ua_variant.specs.Measure.{scalars_depth, scalar_depth}
use Rattle.ua_variant.specs.View.{row, scalar_of, elements_of}
use Rattle.ua_variant.proofs.Rows.{count_below, depth_after}
use Rattle.ua_variant.proofs.Judged.{levels_some, levels_none}
use Rattle.ua_variant.proofs.Fits.{fit_fails, fit_after, other_kind, same_kind, and_false}
use Rattle.ua_variant.specs.Packed.{packed_leaves}
use Rattle.ua_variant.specs.Encodable.{scalars_fit}
use Rattle.ua_variant.proofs.PackedRows.{packed_depth}
use Rattle.ua_variant.proofs.encodable.+fits.Goals as goal

pub row_levels_of-returns-in-Packed : goal.row_levels_of-returns-in-Packed
row_levels_of-returns-in-Packed t c =
    let all = ap elements_of (sym c.in-Packed.is) ∙ c.elements.ensures in
    c.no_levels_if.ensures ∙ ap₂ levels_if (c.fits.ensures ∙ ap (λ xs. scalars_fit c.args.kind (row xs)) all)
    (sym (packed_depth (packed_leaves c.in-Packed.packed) c.args.items.now all))

pub row_levels_of-returns-then-kind : goal.row_levels_of-returns-then-kind
row_levels_of-returns-then-kind t c =
    sym (ap (λ b. levels_if b (scalars_depth (row c.args.items.now)))
    (fit_fails c.args.kind c.deref-s-items.result.now c.loop-s.s-index c.s-item.result c.args.items.now (ap (map scalar_of) c.deref-s-items.ensures.value
    ∙ ap elements_of (sym c.in-Mixed.is) ∙ c.elements.ensures) (omega arith) c.s-item.is
    (ap (λ b. b && scalar_fits (scalar_of c.s-item.result))
    (other_kind (kind_of_scalar (scalar_of c.s-item.result)) c.args.kind (λ e. c.if-kind.true (c.kind.ensures ∙ e))))))

pub row_levels_of-scalar_levels_of-requires : goal.row_levels_of-scalar_levels_of-requires
row_levels_of-scalar_levels_of-requires t c = (
  omega (
    arith,
    count_below c.deref-s-items.result.now c.loop-s.s-index c.s-item.result c.args.items.now (ap (map scalar_of) c.deref-s-items.ensures.value
        ∙ ap elements_of (sym c.in-Mixed.is) ∙ c.elements.ensures) (omega arith) c.s-item.is,
  ),
  tt,
)

pub row_levels_of-returns-in-None : goal.row_levels_of-returns-in-None
row_levels_of-returns-in-None t c =
    let refused = levels_none (scalar_fits (scalar_of c.s-item.result)) (scalar_depth (scalar_of c.s-item.result)) (sym c.scalar_levels_of.ensures
    ∙ c.in-None.is) in
    sym (ap (λ b. levels_if b (scalars_depth (row c.args.items.now)))
    (fit_fails c.args.kind c.deref-s-items.result.now c.loop-s.s-index c.s-item.result c.args.items.now (ap (map scalar_of) c.deref-s-items.ensures.value
    ∙ ap elements_of (sym c.in-Mixed.is) ∙ c.elements.ensures) (omega arith) c.s-item.is
    (and_false (eqb (kind_of_scalar (scalar_of c.s-item.result)) c.args.kind) (scalar_fits (scalar_of c.s-item.result)) refused)))

pub row_levels_of-loop-s-preserved : goal.row_levels_of-loop-s-preserved
row_levels_of-loop-s-preserved t c =
    let found = levels_some (scalar_fits (scalar_of c.s-item.result)) (scalar_depth (scalar_of c.s-item.result)) c.in-Some.n (sym c.scalar_levels_of.ensures
    ∙ c.in-Some.is) in
    record {
      fit = fit_after c.args.kind c.deref-s-items.result.now c.loop-s.s-index c.s-item.result (omega arith) c.s-item.is
          ∙ ap₂ (λ a b. a && b) c.loop-s.invariant.fit
          (ap₂ (λ a b. a && b) (same_kind (kind_of_scalar (scalar_of c.s-item.result)) c.args.kind (sym c.kind.ensures ∙ c.if-kind.false)) found.0);
      deepest = grind (arith, common_steps, depth_after c.deref-s-items.result.now c.loop-s.s-index c.s-item.result (omega arith) c.s-item.is, found.1);
    }
