use Rattle.ua_c.proofs.Named.{none_in_octets}
use Rattle.ua_c.proofs.requests.node_of.Goals as goal

-- octets that are the text of no NodeId
pub returns-in-Ok-clause-fault : goal.returns-in-Ok-clause-fault
returns-in-Ok-clause-fault c = none_in_octets c.node_named.result c.in-Ok.text.now c.args.octets.now c.in-Ok.ensures.cases.0 c.node_named.ensures.fault
