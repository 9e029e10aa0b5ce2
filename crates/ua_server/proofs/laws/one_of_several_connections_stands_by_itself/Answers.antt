use Rattle.std.proofs.Common.{refl}
use Rattle.ua_server.proofs.Sharings.{stands-over, stands_changed}
use Rattle.ua_server.proofs.laws.one_of_several_connections_stands_by_itself.Goals as goal

pub returns-clause-alone : goal.returns-clause-alone
returns-clause-alone c = stands-over

pub returns-clause-changed : goal.returns-clause-changed
returns-clause-changed c = stands_changed

pub returns-clause-silent : goal.returns-clause-silent
returns-clause-silent c = λ channels k p nodes. (refl, refl)
