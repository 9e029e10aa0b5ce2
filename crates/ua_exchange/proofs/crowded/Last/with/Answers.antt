use Rattle.std.proofs.Common.{[], ◌∷◌, ◌+◌, ◌++◌, subst, sym}
use Rattle.ua_exchange.specs.declared.turn.Turn.{Turn}
use Rattle.ua_exchange.specs.inside.Counting.{CountsLast}
use Rattle.ua_exchange.proofs.Counting.{counts-call, counts-first, counts-renewal}
use Rattle.ua_exchange.proofs.crowded.Last.with.Goals as goal

pub returns-in-Ask-clause-counts : goal.returns-in-Ask-clause-counts
returns-in-Ask-clause-counts c = λ before k.
    subst (λ (t : Turn). CountsLast (before ++ t ∷ []) c.args.self.renewals (c.args.self.calls + 1)) (sym c.in-Ask.is)
    (counts-call before c.args.self.renewals c.args.self.calls c.in-Ask.field-0 k)

pub returns-in-Renew-clause-counts : goal.returns-in-Renew-clause-counts
returns-in-Renew-clause-counts c = λ before k.
    subst (λ (t : Turn). CountsLast (before ++ t ∷ []) (c.args.self.renewals + 1) 0) (sym c.in-Renew.is)
    (counts-renewal before c.args.self.renewals c.args.self.calls k c.if-calls-eq0.true)

pub returns-in-Renew-2-clause-counts : goal.returns-in-Renew-2-clause-counts
returns-in-Renew-2-clause-counts c = λ before k.
    subst (λ (t : Turn). CountsLast (before ++ t ∷ []) 1 0) (sym c.in-Renew.is)
    (counts-first before c.args.self.renewals c.args.self.calls k c.if-calls-eq0.false)
