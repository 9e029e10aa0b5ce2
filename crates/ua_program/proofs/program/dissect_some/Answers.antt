use Rattle.ua_program.proofs.Readings.{dissected, told_some}
use Rattle.ua_program.proofs.program.dissect_some.Goals as goal

pub returns-in-Ok-clause-dissected : goal.returns-in-Ok-clause-dissected
returns-in-Ok-clause-dissected g c = dissected _ _ _ _ _ _ _ c.in-Ok.ensures.lines

pub returns-in-Err-clause-stopped : goal.returns-in-Err-clause-stopped
returns-in-Err-clause-stopped g c = told_some _ _ _ _ _ c.in-Err.ensures.begun
