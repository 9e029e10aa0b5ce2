use Rattle.std.proofs.Common.{rules, inl, inr, refl}
use Rattle.ua_serving.proofs.Serves.{at_any_stop, line_said, lines_told, told_by}
use Rattle.ua_serving.proofs.serve.tell_beside.Goals as goal

pub returns-in_ok-outcome_line-in-None-clause-served : goal.returns-in_ok-outcome_line-in-None-clause-served
returns-in_ok-outcome_line-in-None-clause-served g c =
    let comes = lines_told g.O.Write.contents _ c.serve_application-outcome.new.watch _ c.serve_application-outcome.ensures.told refl (search rules) in
    (told_by _ _ _ _ comes (inl (search rules)), line_said _ _ _ c.in_ok-outcome_line-in-None.ensures)

pub returns-in_err-outcome_line-in-None-clause-stopped : goal.returns-in_err-outcome_line-in-None-clause-stopped
returns-in_err-outcome_line-in-None-clause-stopped g c =
    let comes = lines_told g.O.Write.contents _ c.serve_application-outcome.new.watch _ c.serve_application-outcome.ensures.told refl (search rules) in
    at_any_stop _ _ (λ stop. inr (told_by _ _ _ _ comes (inl (search rules))))

pub returns-in-Some-Memory-clause-stopped : goal.returns-in-Some-Memory-clause-stopped
returns-in-Some-Memory-clause-stopped g c =
    let comes = lines_told g.O.Write.contents _ c.serve_application-outcome.new.watch _ c.serve_application-outcome.ensures.told refl (search rules) in
    inr (told_by _ _ _ _ comes (inr (search rules)))
