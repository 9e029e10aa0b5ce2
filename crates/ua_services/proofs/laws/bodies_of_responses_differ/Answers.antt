use Rattle.ua_services.specs.Response.{response}
use Rattle.ua_services.proofs.ResponseLawful.{lawful_response}
use Rattle.ua_opening.proofs.BodyLaws.{one_message}
use Rattle.ua_services.proofs.laws.bodies_of_responses_differ.Goals as goal

pub returns : goal.returns
returns c = one_message response lawful_response
