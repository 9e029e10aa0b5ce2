use Rattle.ua_channel_laws.proofs.Following.{server_begins, server_told, server_not_refused, server_not_closed}
use Rattle.ua_channel_laws.proofs.merge_laws.server_follows.Goals as goal

pub returns-clause-begins : goal.returns-clause-begins
returns-clause-begins c = server_begins

pub returns-clause-all : goal.returns-clause-all
returns-clause-all c = server_told

pub returns-clause-not_refused : goal.returns-clause-not_refused
returns-clause-not_refused c = server_not_refused

pub returns-clause-not_closed : goal.returns-clause-not_closed
returns-clause-not_closed c = server_not_closed
