use Rattle.ua_report.proofs.Stops.{left_asking}
use Rattle.ua_program.proofs.ask.endpoints_heard.Goals as goal

pub returns-in-Err-clause-stopped : goal.returns-in-Err-clause-stopped
returns-in-Err-clause-stopped g c = left_asking _ _ c.blame.ensures c.in-Err.ensures.left
