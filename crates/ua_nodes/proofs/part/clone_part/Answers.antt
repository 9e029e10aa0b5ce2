use Rattle.std.proofs.Common.{◌≡◌, ◌-◌, IfOk, min, sym, subst, ap, ◌∙◌}
use Rattle.ua_nodes.specs.Range.{list_in, ranged}
use Rattle.ua_nodes.proofs.Ranges.{cut_is}
use Rattle.ua_nodes.proofs.part.clone_part.Goals as goal

pub returns-in-Some : goal.returns-in-Some
returns-in-Some c =
    let k = c.min-from.result in
    let n = c.len-in-Some.result in
    let at = c.min-from.ensures ∙ ap (min c.args.range.first) c.len.ensures in
    let most = c.min.ensures ∙ ap (λ l. min n (l - k)) c.len-in-Some-2.ensures in
    subst (λ r. IfOk c.part.result (λ p. p ≡ r)) (cut_is c.args.range c.in-Some.items k n c.min.result at c.len-in-Some.ensures most
    ∙ ap (λ i. ranged c.args.range (list_in i)) (sym c.in-Some.is)) c.part.ensures
