use Rattle.std.proofs.Common.{Err, ap, inr, refl}
use Rattle.ua_c.proofs.requests.node_named.Goals as goal

-- a text that names no NodeId
pub returns-in-Err-NotNodeId-clause-fault : goal.returns-in-Err-NotNodeId-clause-fault
returns-in-Err-NotNodeId-clause-fault c = inr (refl, c.in-Err-NotNodeId.ensures.none (ap Err c.in-Err-NotNodeId.field-0-is))
