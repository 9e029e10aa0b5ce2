use Rattle.std.proofs.Common.{inr}
use Rattle.ua_program.specs.Talked.{Nothing}
use Rattle.ua_program.proofs.asking.talk_lines.Goals as goal

pub returns-in-Err-clause-stopped : goal.returns-in-Err-clause-stopped
returns-in-Err-clause-stopped g c = inr Nothing
