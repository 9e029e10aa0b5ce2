use Rattle.std.proofs.Common.{arith}
use Rattle.ua_services.specs.Request.{request_of_kind}
use Rattle.ua_services.proofs.RequestRead.{kind_fails, kind_left, kind_whole}
use Rattle.ua_services.proofs.request.read_request_of_kind.Goals as goal

pub returns-in-Err : goal.returns-in-Err
unfolding request_of_kind
returns-in-Err g c = kind_fails c.args.kind (g.S.Source.octets c.fork-head.result) (g.S.Source.octets c.args.src.now) (g.S.Source.octets c.read_kind.new.src)
    c.in-Err.fault c.unreadable.result c.fork-head.ensures c.in-Err.ensures.exact c.unreadable.ensures

pub returns-then-left-gt0 : goal.returns-then-left-gt0
unfolding request_of_kind
returns-then-left-gt0 g c = kind_left c.args.kind (g.S.Source.octets c.fork-head.result) (g.S.Source.octets c.args.src.now)
    (g.S.Source.octets c.read_kind.new.src) c.in-Ok.request c.unreadable-then-left-gt0.result c.fork-head.ensures c.in-Ok.ensures.exact
    (omega (arith, c.if-left-gt0.true, c.left.ensures)) c.unreadable-then-left-gt0.ensures

pub returns : goal.returns
unfolding request_of_kind
returns g c = kind_whole c.args.kind (g.S.Source.octets c.args.src.now) (g.S.Source.octets c.read_kind.new.src) c.in-Ok.request c.in-Ok.ensures.exact
    (omega (arith, c.if-left-gt0.false, c.left.ensures))
