use Rattle.ua_headline.proofs.Calling.{opened}
use Rattle.ua_headline.proofs.calling_laws.opened_clients_did_nothing.Goals as goal

pub returns : goal.returns
returns c = record {
  opened = opened c.clients_are_settled.ensures.opened;
}
