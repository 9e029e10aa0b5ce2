use Rattle.std.proofs.Common.{sym, subst, List, ℕ, Err}
use Rattle.std.proofs.lemmas.Result.{err_from_is_err_and}
use Rattle.ua_channel.specs.inside.ServerParts.{ReadsAsked}
use Rattle.ua_channel.proofs.Openings.{judges_headers, has_headers, judges_body, refuses_asked, opens}
use Rattle.ua_channel.proofs.server_opening.judge_opening.Goals as goal

pub returns-in-Err : goal.returns-in-Err
returns-in-Err c = judges_headers c.args.channel c.args.issued c.args.frame.body c.in-Err.fault c.from_open.result c.in-Err.ensures.faults c.from_open.ensures

pub returns-in_err-asked : goal.returns-in_err-asked
returns-in_err-asked c =
    let p = err_from_is_err_and c.from_residual.result c.from_residual.ensures.1 in
    let h = has_headers c.args.frame c.in-Ok.opening c.in-Ok.ensures.found in
    rw (p.1, p.2) (judges_body c.args.channel c.args.issued c.in-Ok.opening.channel c.in-Ok.opening.sequence c.in-Ok.opening.request c.args.frame.body
    c.in-Ok.opening.body h c.in_err-asked.field-0.0
    (subst (λ (t : List ℕ). ReadsAsked t (Err c.in_err-asked.field-0.0)) c.deref.ensures c.in_err-asked.ensures))

pub returns-in-Some : goal.returns-in-Some
returns-in-Some c = λ limits before same.
    let h = has_headers c.args.frame c.in-Ok.opening c.in-Ok.ensures.found in
    refuses_asked c.args.channel c.args.issued c.in-Ok.opening.channel c.in-Ok.opening.sequence c.in-Ok.opening.request c.args.frame.body c.in-Ok.opening.body h
    c.in_ok-asked.asked (rw (← c.deref.ensures) c.in_ok-asked.ensures) limits before c.in-Some.code.code same (sym c.in-Some.ensures)

pub returns : goal.returns
returns c =
    let h = has_headers c.args.frame c.in-Ok.opening c.in-Ok.ensures.found in
    opens c.args.channel c.args.issued c.in-Ok.opening.channel c.in-Ok.opening.sequence c.in-Ok.opening.request c.args.frame.body c.in-Ok.opening.body h
    c.in_ok-asked.asked (rw (← c.deref.ensures) c.in_ok-asked.ensures) (sym c.in-None.ensures)
