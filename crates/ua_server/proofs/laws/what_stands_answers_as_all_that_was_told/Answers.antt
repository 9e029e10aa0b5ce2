use Rattle.ua_server.proofs.NowStanding.{as-told, stands-now}
use Rattle.ua_server.proofs.laws.what_stands_answers_as_all_that_was_told.Goals as goal

pub returns-clause-answers : goal.returns-clause-answers
returns-clause-answers c = as-told

pub returns-clause-stands : goal.returns-clause-stands
returns-clause-stands c = stands-now
