use Rattle.std.proofs.Common.{sym, Some}
use Rattle.ua_services.specs.Response.{response_read, unread_by}
use Rattle.ua_services.specs.declared.fault.ResponseFault.TheVariants.{Unknown}
use Rattle.ua_services.proofs.ResponseRead.{id_fails, unknown, read-kind, refused_by}
use Rattle.ua_services.proofs.response.body_kind.Goals as goal

pub returns-in-Err-clause-refused : goal.returns-in-Err-clause-refused
returns-in-Err-clause-refused g c =
    rw c.unreadable.ensures (refused_by (unread_by c.in-Err.fault) (response_read (g.S.Source.octets c.args.src.now))
    (id_fails (g.S.Source.octets c.args.src.now) (g.S.Source.octets c.read_value.new.src) c.in-Err.fault c.in-Err.ensures.exact))

pub returns-in-Some-clause-found : goal.returns-in-Some-clause-found
returns-in-Some-clause-found g c = read-kind (g.S.Source.octets c.args.src.now) (g.S.Source.octets c.read_value.new.src) c.in-Ok.id
    (Some c.in-Some.kind) c.in-Ok.ensures.exact (sym c.in-Some.ensures)

pub returns-clause-refused : goal.returns-clause-refused
returns-clause-refused g c =
    refused_by Unknown (response_read (g.S.Source.octets c.args.src.now))
    (unknown (g.S.Source.octets c.args.src.now) (g.S.Source.octets c.read_value.new.src) c.in-Ok.id c.in-Ok.ensures.exact (sym c.in-None.ensures))
