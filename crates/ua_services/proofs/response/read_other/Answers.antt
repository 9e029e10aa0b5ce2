use Rattle.std.proofs.Common.{arith}
use Rattle.ua_services.specs.Response.{response_of_kind}
use Rattle.ua_services.proofs.ResponseRead.{kind_fails, kind_left, kind_whole}
use Rattle.ua_services.proofs.response.read_other.Goals as goal

pub returns-in-Err : goal.returns-in-Err
unfolding response_of_kind
returns-in-Err g c =
    rw c.unreadable.ensures
    (kind_fails c.args.kind (g.S.Source.octets c.args.src.now) (g.S.Source.octets c.read_kind.new.src) c.in-Err.fault c.in-Err.ensures.exact)

pub returns-then-left-gt0 : goal.returns-then-left-gt0
unfolding response_of_kind
returns-then-left-gt0 g c = kind_left c.args.kind (g.S.Source.octets c.args.src.now) (g.S.Source.octets c.read_kind.new.src) c.in-Ok.response
    c.in-Ok.ensures.exact (omega (arith, c.if-left-gt0.true, c.left.ensures))

pub returns : goal.returns
unfolding response_of_kind
returns g c = kind_whole c.args.kind (g.S.Source.octets c.args.src.now) (g.S.Source.octets c.read_kind.new.src) c.in-Ok.response c.in-Ok.ensures.exact
    (omega (arith, c.if-left-gt0.false, c.left.ensures))
