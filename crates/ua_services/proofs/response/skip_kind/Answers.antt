use Rattle.ua_services.proofs.ResponseSkipped.{skips_fault}
use Rattle.ua_services.proofs.response.skip_kind.Goals as goal

pub returns-in-ServiceFault-clause-exact : goal.returns-in-ServiceFault-clause-exact
returns-in-ServiceFault-clause-exact g c =
    skips_fault c.args.kind c.args.depth (g.S.Source.octets c.args.src.now) (g.S.Source.octets c.skip_value-in-ServiceFault.new.src)
    c.skip_value-in-ServiceFault.result c.in-ServiceFault.is c.skip_value-in-ServiceFault.ensures.exact
