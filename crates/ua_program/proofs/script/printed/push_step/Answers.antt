use Rattle.std.proofs.Common.{ℕ, subst}
use Rattle.std.proofs.lemmas.Result.{err_from_is_err_and}
use Rattle.ua_answers.specs.Replies.{NoAnswers, statuses_in, values_in}
use Rattle.ua_program.proofs.ScriptTold.{read_answered, read_failed, write_answered, write_failed}
use Rattle.ua_program.proofs.script.printed.push_step.Goals as goal

pub returns-in_err-push_read_answers_as-in-Read : goal.returns-in_err-push_read_answers_as-in-Read
returns-in_err-push_read_answers_as-in-Read c =
    let e = c.in_err-push_read_answers_as-in-Read in
    let p = err_from_is_err_and c.from_residual.result c.from_residual.ensures.1 in
    rw (p.1, p.2, c.in-Read.is)
    (read_failed c.args.plain c.args.names c.in-Read.node c.args.response.now e.field-0.0 _ _
    (subst (λ (n : ℕ). NoAnswers (values_in c.args.response.now) n c.args.response.now e.field-0.0) c.from_ref.ensures.len e.ensures.faults) e.ensures.kept)

pub returns-in_err-push_write_answers-in-Write : goal.returns-in_err-push_write_answers-in-Write
returns-in_err-push_write_answers-in-Write c =
    let e = c.in_err-push_write_answers-in-Write in
    let r = c.from_residual-in_err-push_write_answers-in-Write in
    let p = err_from_is_err_and r.result r.ensures.1 in
    rw (p.1, p.2, c.in-Write.is)
    (write_failed c.args.plain c.args.names c.in-Write.node c.args.response.now e.field-0.0 _ _
    (subst (λ (n : ℕ). NoAnswers (statuses_in c.args.response.now) n c.args.response.now e.field-0.0) c.from_ref-in-Write.ensures.len e.ensures.faults)
    e.ensures.kept)

pub returns-in_ok-push_read_answers_as-in-Read : goal.returns-in_ok-push_read_answers_as-in-Read
returns-in_ok-push_read_answers_as-in-Read c =
    rw (c.in-Read.is)
    (read_answered c.args.plain c.args.names c.in-Read.node c.args.response.now _ _ _ _ c.from_ref.ensures.value c.plain-lines.ensures
    c.in_ok-push_read_answers_as-in-Read.ensures.lines)

pub returns-in_ok-push_write_answers-in-Write : goal.returns-in_ok-push_write_answers-in-Write
returns-in_ok-push_write_answers-in-Write c =
    rw (c.in-Write.is)
    (write_answered c.args.plain c.args.names c.in-Write.node c.args.response.now _ _ _ _ c.from_ref-in-Write.ensures.value c.plain-lines.ensures
    c.in_ok-push_write_answers-in-Write.ensures.lines)
