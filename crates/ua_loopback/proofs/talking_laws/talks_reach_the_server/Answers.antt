use Rattle.ua_loopback.proofs.Calling.{leaves_turn, reads_turn}
use Rattle.ua_loopback.proofs.talking_laws.talks_reach_the_server.Goals as goal

pub returns-clause-reaches : goal.returns-clause-reaches
returns-clause-reaches c = reads_turn

pub returns-clause-state : goal.returns-clause-state
returns-clause-state c = leaves_turn
