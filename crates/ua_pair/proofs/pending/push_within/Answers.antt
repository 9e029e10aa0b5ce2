use Rattle.std.proofs.Common.{sym, ◌∙◌}
use Rattle.ua_pair.proofs.PendingLines.{adds_as, large_added}
use Rattle.ua_pair.proofs.pending.push_within.Goals as goal

pub returns-then-is_large : goal.returns-then-is_large
returns-then-is_large g c =
    large_added c.push_left_out.result c.args.options.now c.args.kind (g.S.Source.octets c.args.src.now) _ _ (sym c.is_large.ensures ∙ c.if-is_large.true)
    c.push_left_out.ensures

pub returns : goal.returns
returns g c =
    adds_as c.push_body.result _ _ _ _ (λ text h. rw (sym c.is_large.ensures ∙ c.if-is_large.false) h) (rw c.style.ensures at c.push_body.ensures)
