use Rattle.ua_serving.proofs.Standards.{begins_so}
use Rattle.ua_serving.proofs.standard.standard_services.Goals as goal

pub returns-in-Ok-clause-begins : goal.returns-in-Ok-clause-begins
returns-in-Ok-clause-begins c = begins_so _ _ _ _ _ _ c.in_ok-whole.ensures.whole c.deref.ensures c.in-Ok.ensures.begins
