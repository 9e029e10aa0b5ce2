use Rattle.std.proofs.Common.{inl, refl}
use Rattle.ua_c.proofs.responses.lines.Goals as goal

-- the lines are the texts of no NodeIds
pub returns-in-Err : goal.returns-in-Err
returns-in-Err c = inl (inl (c.in-Err.bad, c.in-Err.ensures.fault, refl), refl)
