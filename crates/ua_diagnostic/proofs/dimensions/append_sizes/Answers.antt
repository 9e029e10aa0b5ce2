use Rattle.std.proofs.Common.{◌++◌, ap, ◌∙◌, pos, FitsSigned, slice_index_or, rules, w32}
use Rattle.ua_wire.specs.Number.{number_octets}
use Rattle.ua_diagnostic.proofs.Extents.{canonical_after}
use Rattle.ua_diagnostic.proofs.dimensions.append_sizes.Goals as goal

pub loop-d-preserved : goal.loop-d-preserved
loop-d-preserved c =
    let fits : FitsSigned w32 (slice_index_or c.args.dims.now c.loop-d.d-index (pos 0)) = search rules in
    c.in_ok-append.ensures.ok ∙ ap (λ xs. xs ++ number_octets 4 c.unsigned_abs.result) c.loop-d.invariant
    ∙ canonical_after c.args.out.now.items c.args.dims.now c.loop-d.d-index c.unsigned_abs.result c.loop-d-test.true fits c.unsigned_abs.ensures.value

pub append-requires : goal.append-requires
append-requires c = search rules
