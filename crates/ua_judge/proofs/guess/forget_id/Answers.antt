use Rattle.std.proofs.Common.{rules, ◌∙◌, append-nil, sym}
use Rattle.std.proofs.lemmas.Fn.{filter_same}
use Rattle.ua_judge.proofs.guess.forget_id.Goals as goal

pub returns : goal.returns
returns c = filter_same _ _ _ (λ x b f k. search rules) _ _ c.retain.ensures.filtered ∙ sym (append-nil _)
