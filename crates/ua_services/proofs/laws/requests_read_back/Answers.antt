use Rattle.ua_services.specs.Request.{request}
use Rattle.ua_services.proofs.RequestLawful.{lawful_request}
use Rattle.ua_opening.proofs.BodyLaws.{body_reads_back}
use Rattle.ua_services.proofs.laws.requests_read_back.Goals as goal

pub returns : goal.returns
returns c = body_reads_back request lawful_request
