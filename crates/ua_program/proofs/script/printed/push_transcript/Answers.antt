use Rattle.std.proofs.Common.{Err, List, None, Ok, Some, drop, map, string_bytes, subst}
use Rattle.std.specs.List.{slice_get}
use Rattle.std.proofs.lemmas.Result.{err_from_is_err_and}
use Rattle.ua_client.specs.declared.reply.Reply.{Reply}
use Rattle.ua_program.specs.ScriptPrinted.{AddsAll, AddsTold, asked_behind, replies_told, reply_told}
use Rattle.ua_program.proofs.ScriptTold.{whole-all, whole-first, whole-others, whole-second}
use Rattle.ua_program.proofs.script.printed.push_transcript.Goals as goal

pub returns-in_err-expect_done : goal.returns-in_err-expect_done
returns-in_err-expect_done c =
    let p = err_from_is_err_and c.from_residual.result c.from_residual.ensures.1 in
    let had = string_bytes c.args.out.now in
    let one =
    subst (λ (rs : List Reply). AddsTold c.args.plain c.args.names (reply_told c.args.names None (slice_get rs 0)) (Err c.in_err-expect_done.field-0.0) had
    had) c.deref.ensures.value (c.in_err-expect_done.ensures c.args.plain c.args.names had) in
    rw (p.1, p.2) (whole-first c.args.plain c.args.names c.args.lines.now c.args.transcript.now.replies.items _ had c.in_err-expect_done.field-0.0 one)

pub returns-in_err-expect_done-2 : goal.returns-in_err-expect_done-2
returns-in_err-expect_done-2 c =
    let r = c.from_residual-in_err-expect_done-2 in
    let p = err_from_is_err_and r.result r.ensures.1 in
    let had = string_bytes c.args.out.now in
    let one = subst (λ (rs : List Reply). AddsTold c.args.plain c.args.names (reply_told c.args.names None (slice_get rs 0)) (Ok tt) had had)
    c.deref.ensures.value (c.in_ok-expect_done.ensures c.args.plain c.args.names had) in
    let two =
    subst (λ (rs : List Reply). AddsTold c.args.plain c.args.names (reply_told c.args.names None (slice_get rs 1)) (Err c.in_err-expect_done-2.field-0.0)
    had had) c.deref-2.ensures.value (c.in_err-expect_done-2.ensures c.args.plain c.args.names had) in
    rw (p.1, p.2) (whole-second c.args.plain c.args.names c.args.lines.now c.args.transcript.now.replies.items _ had c.in_err-expect_done-2.field-0.0 one two)

pub returns-in_err-push_answers : goal.returns-in_err-push_answers
returns-in_err-push_answers c =
    let r = c.from_residual-in_err-push_answers in
    let p = err_from_is_err_and r.result r.ensures.1 in
    let had = string_bytes c.args.out.now in
    let one = subst (λ (rs : List Reply). AddsTold c.args.plain c.args.names (reply_told c.args.names None (slice_get rs 0)) (Ok tt) had had)
    c.deref.ensures.value (c.in_ok-expect_done.ensures c.args.plain c.args.names had) in
    let two = subst (λ (rs : List Reply). AddsTold c.args.plain c.args.names (reply_told c.args.names None (slice_get rs 1)) (Ok tt) had had)
    c.deref-2.ensures.value (c.in_ok-expect_done-2.ensures c.args.plain c.args.names had) in
    let have = string_bytes c.push_answers.new.out in
    let all = subst (λ (rs : List Reply). AddsAll c.args.plain c.args.names (replies_told c.args.names (asked_behind c.args.lines.now) (drop 2 (map Some rs)))
    (Err c.in_err-push_answers.field-0.0) had have) c.deref-3.ensures.value c.in_err-push_answers.ensures in
    rw (p.1, p.2) (whole-others c.args.plain c.args.names c.args.lines.now c.args.transcript.now.replies.items _ had one two c.in_err-push_answers.field-0.0
    have all)

pub returns : goal.returns
returns c =
    let had = string_bytes c.args.out.now in
    let one = subst (λ (rs : List Reply). AddsTold c.args.plain c.args.names (reply_told c.args.names None (slice_get rs 0)) (Ok tt) had had)
    c.deref.ensures.value (c.in_ok-expect_done.ensures c.args.plain c.args.names had) in
    let two = subst (λ (rs : List Reply). AddsTold c.args.plain c.args.names (reply_told c.args.names None (slice_get rs 1)) (Ok tt) had had)
    c.deref-2.ensures.value (c.in_ok-expect_done-2.ensures c.args.plain c.args.names had) in
    let have = string_bytes c.push_answers.new.out in
    let all = subst (λ (rs : List Reply). AddsAll c.args.plain c.args.names (replies_told c.args.names (asked_behind c.args.lines.now) (drop 2 (map Some rs)))
    (Ok tt) had have) c.deref-3.ensures.value c.in_ok-push_answers.ensures in
    whole-all c.args.plain c.args.names c.args.lines.now c.args.transcript.now.replies.items _ had one two have (string_bytes c.push_totals.new.out) all
    c.in_ok-push_totals.ensures
