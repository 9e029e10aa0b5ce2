use Rattle.std.specs.Int.{w64}
use Rattle.ua_nodes.proofs.Parsed.{signed_exact}
use Rattle.ua_nodes.proofs.number.I64WholeNumber.lawful.Goals as goal

pub returns-clause-exact : goal.returns-clause-exact
returns-clause-exact c text r h ne = signed_exact w64 text r h.0 ne
