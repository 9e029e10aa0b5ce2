use Rattle.ua_client.proofs.Hearsay.{told-once}
use Rattle.ua_client.proofs.laws.calls_are_told_once.Goals as goal

pub returns : goal.returns
returns c = told-once c.client_tells_delivered.ensures c.client_pairs.ensures.once c.client_pairs.ensures.no_other c.client_goes_on.ensures
