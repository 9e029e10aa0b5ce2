use Rattle.std.proofs.Common.{◌≡◌, ◌+◌, ◌++◌, List, [], ◌∷◌, length, arith, sym, ap, ◌∙◌}
use Rattle.std.proofs.lemmas.List.Sums.{sum_by-append}
use Rattle.std.proofs.lemmas.Result.{err_from_is_err_and}
use Rattle.std.specs.List.{concat}
use Rattle.ua_chunk.specs.declared.pending.Pending.{Pending}
use Rattle.ua_chunk.specs.Pending.{octets_in}
use Rattle.ua_chunk.proofs.pending.PendingMessages.put.Goals as goal

pub invariant_of-self : goal.invariant_of-self
invariant_of-self c = c.self.invariant ∙ sym (ap octets_in c.in_err-push.ensures.items)

pub invariant_of-self-2 : goal.invariant_of-self-2
invariant_of-self-2 c =
    let grown : octets_in c.push.new.self.items ≡ octets_in (c.self.inside.messages.items ++ c.args.pending ∷ []) =
    ap octets_in c.in_ok-push.ensures.items in
    let whole = sum_by-append (λ (m : Pending). length (concat m.message)) c.self.inside.messages.items (c.args.pending ∷ []) in
    omega (arith, c.in-Some.ensures, c.self.invariant, c.len.ensures, grown, whole)

pub returns-clause-ok : goal.returns-clause-ok
returns-clause-ok c = c.in_ok-push.ensures.items ∙ ap (λ (ms : List Pending). ms ++ c.args.pending ∷ []) c.self.view_is

pub returns-in_err-push-clause-err : goal.returns-in_err-push-clause-err
returns-in_err-push-clause-err c =
    let p = err_from_is_err_and c.from_residual.result c.from_residual.ensures.1 in
    rw p.1 (c.in_err-push.ensures.items ∙ c.self.view_is)
