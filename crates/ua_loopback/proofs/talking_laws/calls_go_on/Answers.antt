use Rattle.ua_loopback.proofs.Calling.{asks_answered, asks_fails, asks_first, asks_on, asks_refused, asks_replied, asks_sent, asks_stop}
use Rattle.ua_loopback.proofs.talking_laws.calls_go_on.Goals as goal

pub returns-clause-stays : goal.returns-clause-stays
returns-clause-stays g c = λ replies t requests moment x y before after result k calls left.
    asks_on t x before k replies requests y after c.clients_are_settled.ensures.none_pending moment result calls left

pub returns-clause-sends : goal.returns-clause-sends
returns-clause-sends g c = λ replies t requests moment x y before after result k calls.
    asks_sent t x before k replies requests y after c.clients_are_settled.ensures.none_pending moment result calls

pub returns-clause-replied : goal.returns-clause-replied
returns-clause-replied g c = λ replies t requests x y before after result k calls.
    asks_replied t x before k replies requests y after c.clients_are_settled.ensures.none_pending result calls

pub returns-clause-refused : goal.returns-clause-refused
returns-clause-refused g c = λ replies t requests x y before after result k calls.
    asks_refused t x before k replies requests y after c.clients_are_settled.ensures.none_pending result calls

pub returns-clause-before : goal.returns-clause-before
returns-clause-before g c = λ replies t requests moment x y before after result k calls left.
    asks_first t x before k replies requests y after c.clients_are_settled.ensures.none_pending moment result calls left

pub returns-clause-fails : goal.returns-clause-fails
returns-clause-fails g c = λ replies t requests x y before after result k calls.
    asks_fails t x before k replies requests y after c.clients_are_settled.ensures.none_pending c.calls_are_told_behind.ensures result calls

pub returns-clause-answered : goal.returns-clause-answered
returns-clause-answered g c = λ replies t requests x y before after result k calls sound.
    asks_answered t x before k replies requests y after c.clients_are_settled.ensures.none_pending c.calls_are_told_behind.ensures result calls sound

pub returns-clause-stops : goal.returns-clause-stops
returns-clause-stops g c = λ replies t requests x y before after result k calls.
    asks_stop t x before k replies requests y after c.clients_are_settled.ensures.none_pending c.calls_are_told_behind.ensures result calls
