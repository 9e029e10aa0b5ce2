use Rattle.ua_pair.proofs.PendingLines.{adds_as}
use Rattle.ua_pair.proofs.pending.push_opening_fields.Goals as goal

pub returns-then-options : goal.returns-then-options
returns-then-options c =
    adds_as c.push_within.result _ _ _ _ (λ text h. rw c.if-options.true h)
    (rw (c.new-body.ensures, c.deref.ensures, c.opening_kind-kind.ensures) at c.push_within.ensures)
