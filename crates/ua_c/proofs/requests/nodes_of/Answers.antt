use Rattle.ua_c.proofs.Named.{none_of_lines}
use Rattle.ua_c.proofs.requests.nodes_of.Goals as goal

-- lines that are the texts of no NodeIds
pub returns-in-Ok-clause-fault : goal.returns-in-Ok-clause-fault
returns-in-Ok-clause-fault c = none_of_lines c.nodes_named.result c.in-Ok.text.now c.args.octets.now c.in-Ok.ensures.cases.0 c.nodes_named.ensures.fault
