use Rattle.std.proofs.Common.{◌∙◌}
use Rattle.ua_program.proofs.Readings.{told_or_not, untold_or, untold_streams}
use Rattle.ua_program.proofs.program.run.Goals as goal

pub returns-in-Ok-perform-clause-silent : goal.returns-in-Ok-perform-clause-silent
returns-in-Ok-perform-clause-silent g c = λ status. untold_or c.may_tell.result c.may_tell.ensures c.perform.ensures.quiet

pub returns-in-Ok-perform-clause-streams : goal.returns-in-Ok-perform-clause-streams
returns-in-Ok-perform-clause-streams g c = untold_streams c.may_tell.result c.may_tell.ensures c.perform.ensures.quiet

pub returns-in-Err-perform-clause-streams : goal.returns-in-Err-perform-clause-streams
returns-in-Err-perform-clause-streams g c =
    told_or_not c.in-Err-perform.ensures.stopped c.tell_stop.ensures.silent c.may_tell.result c.may_tell.ensures
    (λ quiet same. same ∙ c.perform.ensures.quiet quiet)
