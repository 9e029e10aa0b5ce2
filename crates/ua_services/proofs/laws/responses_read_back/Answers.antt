use Rattle.ua_services.specs.Response.{response}
use Rattle.ua_services.proofs.ResponseLawful.{lawful_response}
use Rattle.ua_opening.proofs.BodyLaws.{body_reads_back}
use Rattle.ua_services.proofs.laws.responses_read_back.Goals as goal

pub returns : goal.returns
returns c = body_reads_back response lawful_response
