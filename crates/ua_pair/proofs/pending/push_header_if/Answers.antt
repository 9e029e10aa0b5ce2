use Rattle.ua_pair.proofs.PendingLines.{adds_as}
use Rattle.ua_pair.proofs.pending.push_header_if.Goals as goal

pub returns-then-unsupported : goal.returns-then-unsupported
returns-then-unsupported c =
    adds_as c.push_header_within.result _ _ _ _ (λ text h. rw (c.if-options.true, c.if-unsupported.true) h)
    (rw c.source-body.ensures at c.push_header_within.ensures)
