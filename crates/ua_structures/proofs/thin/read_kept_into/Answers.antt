use Rattle.std.proofs.Common.{sym, ◌∙◌, ap, Some}
use Rattle.ua_variant.specs.declared.values.DataValue.{DataValue}
use Rattle.ua_structures.proofs.Thinned.{kept_placed, null_kept}
use Rattle.ua_structures.proofs.thin.read_kept_into.Goals as goal

pub returns-then-is_kept-clause-exact : goal.returns-then-is_kept-clause-exact
returns-then-is_kept-clause-exact g c =
    kept_placed (g.T.TakesTypes.takes c.args.types.now c.args.id.now) c.args.depth (g.S.Source.octets c.args.src.now)
    (g.S.Source.octets c.read_value_into.new.src) _ c.read_value_into.result (sym c.if-is_kept.ensures) c.read_value_into.ensures.exact

pub returns-clause-exact : goal.returns-clause-exact
returns-clause-exact g c =
    null_kept (g.T.TakesTypes.takes c.args.types.now c.args.id.now) c.args.depth (g.S.Source.octets c.args.src.now) (g.S.Source.octets c.skip_value.new.src)
    (sym c.if-is_kept.ensures) c.in_ok-skip_value.ensures.exact
    ∙ ap (λ (d : DataValue). Some (d, g.S.Source.octets c.skip_value.new.src)) (sym c.null_value.ensures)
