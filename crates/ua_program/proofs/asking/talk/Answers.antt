use Rattle.ua_report.specs.Reasons.{StopsWriting}
use Rattle.ua_program.proofs.Talks.{none_stops}
use Rattle.ua_program.proofs.asking.talk.Goals as goal

pub returns-in_err-heard-clause-stopped : goal.returns-in_err-heard-clause-stopped
returns-in_err-heard-clause-stopped g c = none_stops StopsWriting c.args.asked.now.style (g.O.Write.contents c.args.out.now) c.from_residual.result
