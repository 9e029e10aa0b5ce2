use Rattle.std.proofs.Common.{subst}
use Rattle.ua_program.specs.Talked.{IsWriters}
use Rattle.ua_program.proofs.Talks.{asking_writes}
use Rattle.ua_program.proofs.asking.stop_at.Goals as goal

pub returns-in-Asking : goal.returns-in-Asking
returns-in-Asking g c = λ output. asking_writes _ _ c.blame.ensures (subst IsWriters c.in-Asking.is output)
