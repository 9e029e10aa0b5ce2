use Rattle.ua_client.proofs.Hearsay.{told-behind}
use Rattle.ua_client.proofs.laws.calls_are_told_behind.Goals as goal

pub returns : goal.returns
returns c = told-behind c.client_tells_delivered.ensures c.client_pairs.ensures.no_other
