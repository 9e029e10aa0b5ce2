use Rattle.ua_report.specs.Reasons.{StopsWriting}
use Rattle.ua_program.proofs.Talks.{none_stops}
use Rattle.ua_program.proofs.asking.ask_server.Goals as goal

pub returns-in_err-repeated-in-Rounds-clause-stopped : goal.returns-in_err-repeated-in-Rounds-clause-stopped
returns-in_err-repeated-in-Rounds-clause-stopped g c = none_stops StopsWriting c.args.asked.now.style (g.O.Write.contents c.args.out.now) c.from_residual.result

pub returns-in_err-opened-in-Script-2-clause-stopped : goal.returns-in_err-opened-in-Script-2-clause-stopped
returns-in_err-opened-in-Script-2-clause-stopped g c = none_stops StopsWriting c.args.asked.now.style (g.O.Write.contents c.args.out.now)
    c.from_residual-in_err-opened-in-Script-2.result
