use Rattle.ua_headline.proofs.Calling.{calls_done, calls_fail}
use Rattle.ua_headline.proofs.calling_laws.calls_add_operations.Goals as goal

pub returns-clause-answered : goal.returns-clause-answered
returns-clause-answered g c = λ replies e deeds requests x y read written before after found h k.
    let a = k.answers h.done.did.last h.at in
    (a.groups, (a.parts, a.sized), calls_done e deeds x y read written h before after k.sent k.moves k.same requests (replies found) a)

pub returns-clause-failed : goal.returns-clause-failed
returns-clause-failed g c = λ replies e deeds requests x y read written before after fault h k.
    calls_fail e deeds x y read written h before after k.sent k.moves k.same requests fault (k.answers h.done.did.last h.at)
