use Rattle.std.proofs.Common.{sym, ◌∙◌, ap₂, ◌&&◌, pos, FitsSigned, slice_index_or, rules, w32}
use Rattle.ua_diagnostic.proofs.Extents.{sizes_fail, sizes_after, size_fails, size_holds}
use Rattle.ua_diagnostic.proofs.dimensions.are_dimensions.Goals as goal

pub returns-then-d-lt0 : goal.returns-then-d-lt0
returns-then-d-lt0 c =
    let fits : FitsSigned w32 (slice_index_or c.args.dims.now c.loop-d.d-index (pos 0)) = search rules in
    sym (sizes_fail c.args.dims.now c.loop-d.d-index (pos 0) c.loop-d-test.true (size_fails _ fits c.if-d-lt0.true))

pub loop-d-preserved : goal.loop-d-preserved
loop-d-preserved c =
    let fits : FitsSigned w32 (slice_index_or c.args.dims.now c.loop-d.d-index (pos 0)) = search rules in
    sizes_after c.args.dims.now c.loop-d.d-index (pos 0) c.loop-d-test.true
    ∙ ap₂ (λ a b. a && b) c.loop-d.invariant (size_holds _ fits c.if-d-lt0.false)
