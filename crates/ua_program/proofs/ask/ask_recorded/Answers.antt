use Rattle.ua_report.proofs.Stops.{left_asking}
use Rattle.ua_program.proofs.ask.ask_recorded.Goals as goal

pub returns-clause-stopped : goal.returns-clause-stopped
returns-clause-stopped g c = left_asking _ _ c.blame.ensures c.in-Err.ensures.left
