use Rattle.ua_nodes.proofs.Parsed.{unsigned_exact}
use Rattle.ua_nodes.proofs.number.U8WholeNumber.lawful.Goals as goal

pub returns-clause-exact : goal.returns-clause-exact
returns-clause-exact c text r h ne = unsigned_exact 8 text r h.0 ne
