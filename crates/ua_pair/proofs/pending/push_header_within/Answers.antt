use Rattle.std.proofs.Common.{sym, ◌∙◌}
use Rattle.ua_pair.proofs.PendingLines.{adds_as, no_header}
use Rattle.ua_pair.proofs.pending.push_header_within.Goals as goal

pub returns-then-is_large : goal.returns-then-is_large
returns-then-is_large g c = no_header c.args.options.now (g.S.Source.octets c.args.src.now) _ (sym c.is_large.ensures ∙ c.if-is_large.true)

pub returns : goal.returns
returns g c =
    adds_as c.push_header.result _ _ _ _ (λ text h. rw (sym c.is_large.ensures ∙ c.if-is_large.false) h) (rw c.style.ensures at c.push_header.ensures)
