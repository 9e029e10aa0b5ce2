use Rattle.std.specs.Int.{w8}
use Rattle.ua_nodes.proofs.Parsed.{signed_exact}
use Rattle.ua_nodes.proofs.number.I8WholeNumber.lawful.Goals as goal

pub returns-clause-exact : goal.returns-clause-exact
returns-clause-exact c text r h ne = signed_exact w8 text r h.0 ne
