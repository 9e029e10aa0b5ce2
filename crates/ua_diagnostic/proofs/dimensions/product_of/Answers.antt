use Rattle.std.proofs.Common.{◌∙◌, pos, FitsSigned, slice_index_or, rules, w32}
use Rattle.ua_diagnostic.proofs.Extents.{product_next}
use Rattle.ua_diagnostic.proofs.dimensions.product_of.Goals as goal

pub loop-d-preserved : goal.loop-d-preserved
loop-d-preserved c =
    let fits : FitsSigned w32 (slice_index_or c.args.dims.now c.loop-d.d-index (pos 0)) = search rules in
    c.saturating_mul-all.ensures ∙ product_next c.args.dims.now c.loop-d.d-index c.loop-d.all c.from.result c.loop-d-test.true fits c.loop-d.invariant
    (c.from.ensures ∙ c.unsigned_abs.ensures.value)
