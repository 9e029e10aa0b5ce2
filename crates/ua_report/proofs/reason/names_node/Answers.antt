use Rattle.std.proofs.Common.{Err, ap}
use Rattle.ua_report.proofs.reason.names_node.Goals as goal

pub returns-in-Err-NotNodeId : goal.returns-in-Err-NotNodeId
returns-in-Err-NotNodeId c = λ named. c.in-Err-NotNodeId.ensures.none (ap Err c.in-Err-NotNodeId.field-0-is)
