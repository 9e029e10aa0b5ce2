use Rattle.std.proofs.Common.{arith}
use Rattle.std.proofs.lemmas.Result.{err_from_is_err_and}
use Rattle.ua_opening.proofs.BodyRead.{whole, left_over, fails}
use Rattle.ua_opening.proofs.message.read_whole.Goals as goal

pub returns-then-left-gt0-clause-none : goal.returns-then-left-gt0-clause-none
returns-then-left-gt0-clause-none g c = λ e. left_over g.T.Wire.format c.lawful.ensures (g.S.Source.octets c.args.src.now) c.in_ok-value.value
    (g.S.Source.octets c.read_value.new.src) c.in_ok-value.ensures.exact (omega arith)

pub returns-clause-found : goal.returns-clause-found
returns-clause-found g c = whole g.T.Wire.format c.lawful.ensures (g.S.Source.octets c.args.src.now) c.in_ok-value.value
    (g.S.Source.octets c.read_value.new.src) c.in_ok-value.ensures.exact (omega arith)

pub returns-in_err-value-clause-none : goal.returns-in_err-value-clause-none
returns-in_err-value-clause-none g c =
    let p = err_from_is_err_and c.from_residual.result c.from_residual.ensures.1 in
    rw (p.1, p.2) (fails g.T.Wire.format c.lawful.ensures (g.S.Source.octets c.args.src.now) (g.S.Source.octets c.read_value.new.src) c.in_err-value.field-0.0
    c.in_err-value.ensures.exact)
