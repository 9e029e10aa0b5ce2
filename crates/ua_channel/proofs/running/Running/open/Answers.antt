use Rattle.std.proofs.Common.{ap, length}
use Rattle.std.proofs.lemmas.Result.{err_from_is_err_and}
use Rattle.ua_channel.specs.Received.{Received}
use Rattle.ua_channel.proofs.Runs.{refuses_opening, takes_first}
use Rattle.ua_channel.proofs.running.Running.open.Goals as goal

pub returns-in_err-opened : goal.returns-in_err-opened
returns-in_err-opened c = λ before g.
    let p = err_from_is_err_and c.from_residual.result c.from_residual.ensures.1 in
    rw (p.1, p.2) (refuses_opening c.args.limits.now c.args.channel 0 before c.args.frame.body c.in_err-opened.field-0.0
    (ap (λ (b : Received). length b.openings) g.before_is) c.in_err-opened.ensures)

pub returns : goal.returns
returns c = λ before g.
    takes_first c.args.limits.now c.args.channel before c.args.agreement c.args.frame.body c.in_ok-opened.opened c.event.result c.new.result g
    c.in_ok-opened.ensures c.event.ensures c.new.ensures.stands c.new.ensures.last c.new.ensures.octets c.new.ensures.chunks
