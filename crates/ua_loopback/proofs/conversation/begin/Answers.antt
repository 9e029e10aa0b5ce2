use Rattle.ua_loopback.proofs.Courses.{opens_by, ready_by, went_by}
use Rattle.ua_loopback.proofs.Faults.{open_fails, open_stops}
use Rattle.ua_loopback.proofs.conversation.begin.Goals as goal

pub returns-in-Ok-clause-went : goal.returns-in-Ok-clause-went
returns-in-Ok-clause-went g c =
    went_by c.args.setup.limits c.args.setup.url c.args.setup.moment (g.L.Line.traffic c.args.line.now) (g.L.Line.traffic c.open.new.line) c.in-Ok.client
    c.clients_are_settled.ensures.opened c.in-Ok.ensures.opens

pub returns-in-Ok-clause-ready : goal.returns-in-Ok-clause-ready
returns-in-Ok-clause-ready g c = ready_by c.args.setup.limits c.args.setup.url c.args.setup.moment (g.L.Line.traffic c.args.line.now)
    (g.L.Line.traffic c.open.new.line)
    c.in-Ok.client c.in-Ok.ensures.opens

pub returns-in-Err-clause-faults : goal.returns-in-Err-clause-faults
returns-in-Err-clause-faults g c = λ reason. opens_by c.args.setup.limits c.args.setup.url c.args.setup.moment (g.L.Line.traffic c.args.line.now)
    (g.L.Line.traffic c.open.new.line) c.in-Err.fault reason c.in-Err.ensures.opens

pub returns-in-Err-clause-fails : goal.returns-in-Err-clause-fails
returns-in-Err-clause-fails g c = λ b able line short.
    open_fails b c.args.setup.limits c.args.setup.url c.args.setup.moment (g.L.Line.traffic c.args.line.now) (g.L.Line.traffic c.open.new.line) c.in-Err.fault
    c.in-Err.ensures.opens able short line

pub returns-in-Err-clause-stops : goal.returns-in-Err-clause-stops
returns-in-Err-clause-stops g c = λ b able line short.
    open_stops b c.args.setup.limits c.args.setup.url c.args.setup.moment (g.L.Line.traffic c.args.line.now) (g.L.Line.traffic c.open.new.line) c.in-Err.fault
    c.in-Err.ensures.opens able short line
