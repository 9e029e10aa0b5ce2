use Rattle.std.proofs.Common.{arith}
use Rattle.ua_builtin.proofs.node_text.append_base64.Goals as goal

pub returns-clause-octets : goal.returns-clause-octets
returns-clause-octets c = λ i. omega (arith, c.type_inv.octets i)
