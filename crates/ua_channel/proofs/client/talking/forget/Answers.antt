use Rattle.std.proofs.Common.{List, ℕ, ◌∷◌, ◌≡◌, rules, subst}
use Rattle.std.specs.Prelude.{drop}
use Rattle.std.proofs.lemmas.Fn.{filter_same}
use Rattle.ua_channel.proofs.AskedOnce.{forgets_first}
use Rattle.ua_channel.proofs.client.talking.forget.Goals as goal

pub returns-then-is_first : goal.returns-then-is_first
returns-then-is_first c = λ once.
    forgets_first c.args.request c.args.ids.now.items c.remove.new.self.items
    (subst (λ (ns : List ℕ). ns ≡ c.args.request ∷ drop 1 ns) c.as_slice.ensures.value (c.is_first.ensures c.if-is_first.true))
    c.remove.ensures.items once

pub returns : goal.returns
returns c = λ once. filter_same _ _ _ (λ x b f k. search rules) _ _ c.retain.ensures.filtered
