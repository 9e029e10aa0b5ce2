use Rattle.ua_channel_laws.proofs.Following.{client_begins, client_told, client_not_failed}
use Rattle.ua_channel_laws.proofs.merge_laws.client_follows.Goals as goal

pub returns-clause-begins : goal.returns-clause-begins
returns-clause-begins c = client_begins

pub returns-clause-all : goal.returns-clause-all
returns-clause-all c = client_told

pub returns-clause-not_failed : goal.returns-clause-not_failed
returns-clause-not_failed c = client_not_failed
