use Rattle.std.proofs.Common.{◌∙◌, ap, sym}
use Rattle.std.proofs.lemmas.Bool.{lt-leb}
use Rattle.ua_exchange.specs.inside.Counting.{is_crowded}
use Rattle.ua_exchange.proofs.Counting.{crowded-few, crowded-many}
use Rattle.ua_exchange.proofs.crowded.Last.is_crowded.Goals as goal

pub returns-then-self-le-MOST_CALLS : goal.returns-then-self-le-MOST_CALLS
returns-then-self-le-MOST_CALLS c = λ before k. sym (crowded-few before c.args.self.renewals c.args.self.calls k c.if-self-le-MOST_CALLS.true)
    ∙ ap (is_crowded before) (sym c.in-Renew.is)

pub returns-else-self-le-MOST_CALLS : goal.returns-else-self-le-MOST_CALLS
returns-else-self-le-MOST_CALLS c = λ before k.
    lt-leb c.args.self.calls 64 c.if-self-le-MOST_CALLS.false
    ∙ (sym (crowded-many before c.args.self.renewals c.args.self.calls k c.if-self-le-MOST_CALLS.false) ∙ ap (is_crowded before) (sym c.in-Renew.is))
