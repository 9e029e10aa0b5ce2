use Rattle.std.proofs.Common.{sym, Some}
use Rattle.ua_services.specs.Request.{request_read, unread_with}
use Rattle.ua_services.proofs.RequestRead.{id_fails, not_supported, read-kind, refused_by}
use Rattle.ua_services.proofs.request.read_request_kind.Goals as goal

pub returns-in-Err-clause-refused : goal.returns-in-Err-clause-refused
returns-in-Err-clause-refused g c =
    rw c.unread.ensures (refused_by (unread_with 0 c.in-Err.fault) (request_read (g.S.Source.octets c.args.src.now))
    (id_fails (g.S.Source.octets c.args.src.now) (g.S.Source.octets c.read_value.new.src) c.in-Err.fault c.in-Err.ensures.exact))

pub returns-in-Some-clause-found : goal.returns-in-Some-clause-found
returns-in-Some-clause-found g c = read-kind (g.S.Source.octets c.args.src.now) (g.S.Source.octets c.read_value.new.src) c.in-Ok.id
    (Some c.in-Some.kind) c.in-Ok.ensures.exact (sym c.in-Some.ensures)

pub returns-clause-refused : goal.returns-clause-refused
returns-clause-refused g c =
    refused_by c.unsupported.result (request_read (g.S.Source.octets c.args.src.now))
    (not_supported (g.S.Source.octets c.args.src.now) (g.S.Source.octets c.read_value.new.src) c.in-Ok.id c.unsupported.result c.in-Ok.ensures.exact
    (sym c.in-None.ensures) c.unsupported.ensures)
