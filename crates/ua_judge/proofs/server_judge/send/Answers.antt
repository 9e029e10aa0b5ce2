use Rattle.std.proofs.Common.{rules, ◌≡◌, ◌++◌, ◌∷◌, [], ℕ, MatchResult, ◌∙◌, sym, subst}
use Rattle.ua_channel.specs.Asks.{asked_in, next_id}
use Rattle.ua_judge.specs.Verdicts.{GoesOnAfter, asking}
use Rattle.ua_judge.proofs.server_judge.send.Goals as goal

pub returns-then-request-at-clause-asks : goal.returns-then-request-at-clause-asks
returns-then-request-at-clause-asks c = λ requests asks octets len s.
    let same : c.args.request.now.place ≡ c.args.at = search rules in
    subst (λ (n : ℕ). MatchResult c.ask.result (λ _. GoesOnAfter requests c.ask.new.client
    (asks ++ (n, asking c.args.request.now.opens (next_id (asked_in asks))) ∷ []) octets) (λ _. GoesOnAfter requests c.ask.new.client asks octets))
    (len ∙ sym same)
    (c.ask.ensures.asks requests asks octets s)
