use Rattle.ua_server.proofs.Histories.{history_first}
use Rattle.ua_server.proofs.Steps.{stands-first}
use Rattle.ua_server.proofs.server.Server.new.Goals as goal

pub returns-clause-stands : goal.returns-clause-stands
returns-clause-stands c = stands-first c.new.result c.new.ensures.goes c.new.ensures.next

pub returns-clause-history : goal.returns-clause-history
returns-clause-history c = history_first c.new.result c.new.ensures.goes c.new.ensures.next
