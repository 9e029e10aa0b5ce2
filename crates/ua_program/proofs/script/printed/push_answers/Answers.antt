use Rattle.std.proofs.Common.{Err, Ok, Option, Some, arith, inr, refl, string_bytes, subst, sym}
use Rattle.std.proofs.lemmas.Result.{err_from_is_err_and}
use Rattle.ua_client.specs.declared.reply.Reply.{Reply}
use Rattle.ua_program.specs.ScriptPrinted.{AddsTold, reply_told}
use Rattle.ua_program.proofs.ScriptTold.{asks, behind-all, behind-fault, behind-none, behind-step}
use Rattle.ua_program.proofs.script.printed.push_answers.Goals as goal

pub loop-line-init : goal.loop-line-init
loop-line-init c = (omega arith, behind-none c.args.plain c.args.names c.args.lines.now c.args.replies.now (string_bytes c.args.out.now))

pub returns-in_err-response : goal.returns-in_err-response
returns-in_err-response c =
    let at = c.loop-line in
    let p = err_from_is_err_and c.from_residual.result c.from_residual.ensures.1 in
    rw (p.1, p.2)
    (behind-fault c.args.plain c.args.names c.args.lines.now c.args.replies.now at.line-index at.place (string_bytes c.args.out.now)
    (string_bytes at.out) at.invariant.1 c.line-item.result c.loop-line-test.true c.line-item.is
    (string_bytes at.out) c.in_err-response.field-0.0 (asks c.line-item.result.step c.in_default.not-Renew)
    (inr (c.in_err-response.ensures.failed c.args.names (Some c.line-item.result.step), refl)))

pub returns-in_err-push_step : goal.returns-in_err-push_step
returns-in_err-push_step c =
    let at = c.loop-line in
    let p = err_from_is_err_and c.from_residual-in_err-push_step.result c.from_residual-in_err-push_step.ensures.1 in
    rw (p.1, p.2)
    (behind-fault c.args.plain c.args.names c.args.lines.now c.args.replies.now at.line-index at.place (string_bytes c.args.out.now)
    (string_bytes at.out) at.invariant.1 c.line-item.result c.loop-line-test.true c.line-item.is
    (string_bytes c.push_step.new.out) c.in_err-push_step.field-0.0 (asks c.line-item.result.step c.in_default.not-Renew)
    (subst (λ (r : Option Reply). AddsTold c.args.plain c.args.names (reply_told c.args.names (Some c.line-item.result.step) r)
    (Err c.in_err-push_step.field-0.0) (string_bytes at.out) (string_bytes c.push_step.new.out))
    (sym c.in_ok-response.ensures.found) c.in_err-push_step.ensures))

pub loop-line-preserved : goal.loop-line-preserved
loop-line-preserved c =
    let at = c.loop-line in (
      omega (arith, at.invariant.0),
      behind-step c.args.plain c.args.names c.args.lines.now c.args.replies.now at.line-index at.place (string_bytes c.args.out.now)
          (string_bytes at.out) at.invariant.1 c.line-item.result c.loop-line-test.true c.line-item.is
          (string_bytes c.push_step.new.out) (asks c.line-item.result.step c.in_default.not-Renew)
          (subst (λ (r : Option Reply). AddsTold c.args.plain c.args.names (reply_told c.args.names (Some c.line-item.result.step) r) (Ok tt)
          (string_bytes at.out) (string_bytes c.push_step.new.out))
          (sym c.in_ok-response.ensures.found) c.in_ok-push_step.ensures),
    )

pub returns : goal.returns
returns c =
    let at = c.loop-line in
    behind-all c.args.plain c.args.names c.args.lines.now c.args.replies.now at.line-index at.place (string_bytes c.args.out.now)
    (string_bytes at.out) c.expect_done.result at.invariant.1 c.loop-line-test.false
    (c.expect_done.ensures c.args.plain c.args.names (string_bytes at.out))
