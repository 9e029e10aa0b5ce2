use Rattle.ua_server.specs.Sharing.{opened}
use Rattle.ua_server.proofs.Sharings.{course-seen, sent-seen, told-seen}
use Rattle.ua_server.proofs.laws.each_connection_is_answered_as_by_one_server.Goals as goal

pub returns-clause-sent : goal.returns-clause-sent
returns-clause-sent c = λ channels k first es. sent-seen channels k (opened first) es

pub returns-clause-left : goal.returns-clause-left
returns-clause-left c = λ channels k first es. course-seen channels k (opened first) es

pub returns-clause-told : goal.returns-clause-told
returns-clause-told c = λ channels k first es. told-seen channels k (opened first) es
