use Rattle.std.proofs.Common.{refl, arith}
use Rattle.std.proofs.lemmas.Result.{err_from_is_err_and}
use Rattle.ua_structures.proofs.ValueAlone.{value_fails, value_found}
use Rattle.ua_structures.proofs.thin.read_value_into.Goals as goal

pub returns-in_err-value-clause-exact : goal.returns-in_err-value-clause-exact
returns-in_err-value-clause-exact g c =
    let p = err_from_is_err_and c.from_residual.result c.from_residual.ensures.1 in
    rw (p.1, p.2) (value_fails c.args.depth (g.S.Source.octets c.args.src.now) (g.S.Source.octets c.take_value_alone.new.src)
    (g.S.Source.octets c.read_value.new.src) c.args.place.now c.in_err-value.field-0.0 (omega (arith, c.if-depth-gt0.true))
    (c.if-take_value_alone.ensures.taken refl)
    c.in_err-value.ensures.exact)

pub returns-then-take_value_alone-clause-exact : goal.returns-then-take_value_alone-clause-exact
returns-then-take_value_alone-clause-exact g c =
    rw (c.new.ensures, c.requires.empty) (value_found c.args.depth (g.S.Source.octets c.args.src.now) (g.S.Source.octets c.take_value_alone.new.src)
    (g.S.Source.octets c.read_value.new.src) c.in_ok-value.value (omega (arith, c.if-depth-gt0.true)) (c.if-take_value_alone.ensures.taken refl)
    c.in_ok-value.ensures.exact)
