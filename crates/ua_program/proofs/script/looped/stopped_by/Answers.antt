use Rattle.std.proofs.Common.{sym}
use Rattle.ua_program.proofs.Stopped.{stops-at, stops-behind}
use Rattle.ua_program.proofs.script.looped.stopped_by.Goals as goal

pub returns-in-Some-get : goal.returns-in-Some-get
returns-in-Some-get c = λ refused.
    let found = c.in-Some-get.ensures.lookup in
    stops-at c.args.lines.now c.args.fault refused c.in-Some.index (sym c.in-Some.ensures) c.saturating_sub.result c.saturating_sub.ensures
    c.in-Some-get.line.now found.3.0 found.1

pub returns-in-None : goal.returns-in-None
returns-in-None c = λ refused.
    stops-behind c.args.lines.now c.args.fault refused c.in-Some.index (sym c.in-Some.ensures) c.saturating_sub.result c.saturating_sub.ensures
    c.in-None.ensures.lookup.3
