use Rattle.std.proofs.Common.{sym}
use Rattle.ua_services.proofs.ResponseSkipped.{body_skipped, no_id, no_kind}
use Rattle.ua_services.proofs.response.skip_response.Goals as goal

pub returns-in-Err : goal.returns-in-Err
returns-in-Err g c =
    rw c.unreadable.ensures
    (record { kind = no_id (g.S.Source.octets c.args.src.now) (g.S.Source.octets c.read_value.new.src) c.in-Err.fault c.in-Err.ensures.exact })

pub returns-in-Some : goal.returns-in-Some
returns-in-Some g c = record {
  kind = body_skipped c.in-Some.kind (g.S.Source.octets c.args.src.now) (g.S.Source.octets c.read_value.new.src) c.in-Ok.id c.skip_last.result
      c.in-Ok.ensures.exact (sym c.in-Some.ensures) c.skip_last.ensures;
}

pub returns : goal.returns
returns g c = record {
  kind = no_kind (g.S.Source.octets c.args.src.now) (g.S.Source.octets c.read_value.new.src) c.in-Ok.id c.in-Ok.ensures.exact (sym c.in-None.ensures);
}
