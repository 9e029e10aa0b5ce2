use Rattle.std.proofs.Common.{refl, sym, ◌∙◌, ap, List, ℕ}
use Rattle.std.specs.Prelude.{◌==◌}
use Rattle.std.specs.List.{list_any}
use Rattle.ua_judge.proofs.Guesses.{begun_new, begun_old, unfinished_kept}
use Rattle.ua_judge.proofs.guess.begun_by.Goals as goal

pub returns-then-begins-clause-begins : goal.returns-then-begins-clause-begins
returns-then-begins-clause-begins c = λ before h.
    begun_new c.args.unfinished.now.items before c.args.frame.now c.in-Some.place c.number_from-id.result (sym c.id_place.ensures.place ∙ c.in-Some.is)
    c.number_from-id.ensures
    (ap (λ (t : List ℕ). list_any (λ held. held == c.number_from-id.result) t) (sym c.deref.ensures.value)
    ∙ (sym c.contains-begins.ensures.value ∙ c.if-begins.true)) h

pub returns-then-begins-clause-unfinished : goal.returns-then-begins-clause-unfinished
returns-then-begins-clause-unfinished c = λ before h.
    unfinished_kept c.args.unfinished.now.items c.keep_id.new.unfinished.items before c.args.frame.now c.in-Some.place c.number_from-id.result _
    (sym c.id_place.ensures.place ∙ c.in-Some.is) c.number_from-id.ensures refl c.in_ok-keep_id.ensures h

pub returns-else-begins-clause-begins : goal.returns-else-begins-clause-begins
returns-else-begins-clause-begins c = λ before h.
    begun_old c.args.unfinished.now.items before c.args.frame.now c.in-Some.place c.number_from-id.result (sym c.id_place.ensures.place ∙ c.in-Some.is)
    c.number_from-id.ensures
    (ap (λ (t : List ℕ). list_any (λ held. held == c.number_from-id.result) t) (sym c.deref.ensures.value)
    ∙ (sym c.contains-begins.ensures.value ∙ c.if-begins.false)) h

pub returns-else-begins-clause-unfinished : goal.returns-else-begins-clause-unfinished
returns-else-begins-clause-unfinished c = λ before h.
    unfinished_kept c.args.unfinished.now.items c.keep_id.new.unfinished.items before c.args.frame.now c.in-Some.place c.number_from-id.result _
    (sym c.id_place.ensures.place ∙ c.in-Some.is) c.number_from-id.ensures refl c.in_ok-keep_id.ensures h
