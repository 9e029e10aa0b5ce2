use Rattle.ua_server.proofs.Histories.{course_over-append, output_over-append}
use Rattle.ua_server.proofs.Sharings.{other-sent, other-told, sent-append, shared-append, told-append}
use Rattle.ua_server.proofs.laws.events_are_answered_in_parts.Goals as goal

pub returns-clause-shared : goal.returns-clause-shared
returns-clause-shared c = shared-append

pub returns-clause-sent : goal.returns-clause-sent
returns-clause-sent c = sent-append

pub returns-clause-told : goal.returns-clause-told
returns-clause-told c = told-append

pub returns-clause-others_told : goal.returns-clause-others_told
returns-clause-others_told c = other-told

pub returns-clause-others_sent : goal.returns-clause-others_sent
returns-clause-others_sent c = other-sent

pub returns-clause-output : goal.returns-clause-output
returns-clause-output c = output_over-append

pub returns-clause-course : goal.returns-clause-course
returns-clause-course c = course_over-append
