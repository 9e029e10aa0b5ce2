use Rattle.std.proofs.Common.{ap}
use Rattle.ua_services.specs.Response.{response}
use Rattle.ua_server.specs.Said.{first_time}
use Rattle.ua_headline.proofs.EachCall.{all_told, answered_as, part, whole}
use Rattle.ua_headline.proofs.laws.each_call_has_its_reply.Goals as goal

pub returns-clause-whole : goal.returns-clause-whole
returns-clause-whole c = λ e turns before after body can accepted parts.
    whole c.ends_connect.ensures c.rounds_reach_both_ends.ensures e turns can accepted before after body parts

pub returns-clause-alone : goal.returns-clause-alone
returns-clause-alone c = λ e turns can accepted. all_told c.ends_connect.ensures c.rounds_reach_both_ends.ensures e turns can accepted

pub returns-clause-part : goal.returns-clause-part
returns-clause-part c = λ e turns before after body took got can accepted parts p q.
    part c.ends_connect.ensures c.rounds_reach_both_ends.ensures e turns can accepted before after body parts took got p q

pub returns-clause-requests : goal.returns-clause-requests
returns-clause-requests c = λ services m fits. ap (λ p. response.canonical p.1) (answered_as services.0 (first_time services.1) m fits)
