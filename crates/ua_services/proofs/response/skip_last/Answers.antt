use Rattle.std.proofs.Common.{arith}
use Rattle.ua_services.proofs.ResponseSkipped.{skip_fails, skip_left, skip_whole}
use Rattle.ua_services.proofs.response.skip_last.Goals as goal

pub returns-in-Err : goal.returns-in-Err
returns-in-Err g c =
    rw c.unreadable.ensures
    (skip_fails c.args.kind (g.S.Source.octets c.args.src.now) (g.S.Source.octets c.skip_kind.new.src) c.in-Err.fault c.in-Err.ensures.exact)

pub returns-then-left-gt0 : goal.returns-then-left-gt0
returns-then-left-gt0 g c = skip_left c.args.kind (g.S.Source.octets c.args.src.now) (g.S.Source.octets c.skip_kind.new.src) c.in_default.ensures.exact
    (omega (arith, c.if-left-gt0.true, c.left.ensures))

pub returns : goal.returns
returns g c = skip_whole c.args.kind (g.S.Source.octets c.args.src.now) (g.S.Source.octets c.skip_kind.new.src) c.in_default.ensures.exact
    (omega (arith, c.if-left-gt0.false, c.left.ensures))
