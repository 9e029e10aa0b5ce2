use Rattle.std.proofs.Common.{ap, Some, ◌∷◌, []}
use Rattle.std.proofs.lemmas.Bool.{eq-eqb, ne_eqb}
use Rattle.std.proofs.lemmas.Result.{err_from_is_err_and}
use Rattle.ua_channel.specs.ServerTold.{Told}
use Rattle.ua_channel.proofs.Runs.{refuses_opening, refuses_renewal, refuses_token, takes_renewal}
use Rattle.ua_channel.proofs.running.Running.on_renewal.Goals as goal

pub returns-in_err-opened : goal.returns-in_err-opened
returns-in_err-opened c = λ limits before s.
    let p = err_from_is_err_and c.from_residual.result c.from_residual.ensures.1 in
    rw (p.1, p.2) (refuses_opening limits c.args.channel c.args.self.now.issued before c.args.frame.body c.in_err-opened.field-0.0 s.issued_is
    c.in_err-opened.ensures)

pub returns-in-Err : goal.returns-in-Err
returns-in-Err c = λ limits before s.
    let f = c.in-Err.ensures.follows before.messages s.assembles in
    refuses_renewal limits c.args.self.now before c.args.channel c.args.frame.body c.in_ok-opened.opened s c.in_ok-opened.ensures c.in-Err.fault
    c.from_chunk.result f.0 f.1 c.from_chunk.ensures

pub returns-then-self : goal.returns-then-self
returns-then-self c = λ limits before s.
    refuses_token limits c.args.self.now before c.args.channel c.args.frame.body c.in_ok-opened.opened s c.in_ok-opened.ensures
    (c.in_default.ensures.follows before.messages s.assembles) (eq-eqb c.args.self.now.issued 4294967295 c.if-self.true)

pub returns : goal.returns
returns c = λ limits before s.
    takes_renewal limits c.args.self.now before c.args.channel c.args.frame.body c.in_ok-opened.opened s c.in_ok-opened.ensures
    (Some c.event.result) c.step.new.self (c.in_default.ensures.follows before.messages s.assembles)
    (ne_eqb c.args.self.now.issued 4294967295 c.if-self.false) (ap (λ (t : Told). t ∷ []) c.event.ensures)
    (c.in_default.ensures.stands before.messages s.assembles) c.in_default.ensures.last c.in_default.ensures.limits
