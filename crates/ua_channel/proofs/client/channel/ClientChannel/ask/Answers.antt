use Rattle.std.proofs.Common.{List, ℕ, subst}
use Rattle.ua_channel.specs.Client.{client_next, IsCalledBetween, SendsCall}
use Rattle.ua_channel.specs.ClientSends.{appended}
use Rattle.ua_channel.proofs.Replies.{sent_is_no_fault, fault_is}
use Rattle.ua_channel.proofs.client.channel.ClientChannel.ask.Goals as goal

pub returns-in-Ok-clause-answers : goal.returns-in-Ok-clause-answers
returns-in-Ok-clause-answers c = c.in-Ok.ensures.answers

pub returns-in-Ok-clause-sent : goal.returns-in-Ok-clause-sent
returns-in-Ok-clause-sent c =
    subst (λ (b : List ℕ). SendsCall c.args.self.now (client_next c.args.self.now) c.args.body.now c.in-Ok.asked.id (appended b c.call.new.out.items)
    (client_next c.call.new.self)) c.new-out.ensures.items c.in-Ok.ensures.sent

pub returns-in-Ok-clause-refuses : goal.returns-in-Ok-clause-refuses
returns-in-Ok-clause-refuses c = c.in-Ok.ensures.refuses

pub returns-in-Ok-clause-calls : goal.returns-in-Ok-clause-calls
returns-in-Ok-clause-calls c = λ asks octets frames rest s.
    subst (λ (b : List ℕ). IsCalledBetween c.args.self.now c.call.new.self asks frames c.args.body.now c.in-Ok.asked.id (appended b c.call.new.out.items))
    c.new-out.ensures.items (c.in-Ok.ensures.calls asks octets frames rest s)

pub returns-in-Ok-clause-stands : goal.returns-in-Ok-clause-stands
returns-in-Ok-clause-stands c = c.in-Ok.ensures.stands

pub returns-in-Ok-clause-done : goal.returns-in-Ok-clause-done
returns-in-Ok-clause-done c = λ over. let h = c.in-Ok.ensures.done over in (sent_is_no_fault _ _ h.0, h.1)

pub returns-in-Ok-clause-same : goal.returns-in-Ok-clause-same
returns-in-Ok-clause-same c = c.in-Ok.ensures.same

pub returns-in-Ok-clause-bound : goal.returns-in-Ok-clause-bound
returns-in-Ok-clause-bound c = c.in-Ok.ensures.bound

pub returns-in-Err-clause-answers : goal.returns-in-Err-clause-answers
returns-in-Err-clause-answers c = c.in-Err.ensures.answers

pub returns-in-Err-clause-refuses : goal.returns-in-Err-clause-refuses
returns-in-Err-clause-refuses c = c.in-Err.ensures.refuses

pub returns-in-Err-clause-kept : goal.returns-in-Err-clause-kept
returns-in-Err-clause-kept c = c.in-Err.ensures.kept

pub returns-in-Err-clause-next : goal.returns-in-Err-clause-next
returns-in-Err-clause-next c = c.in-Err.ensures.next

pub returns-in-Err-clause-done : goal.returns-in-Err-clause-done
returns-in-Err-clause-done c = λ over. let h = c.in-Err.ensures.done over in (fault_is _ _ h.0, h.1)

pub returns-in-Err-clause-same : goal.returns-in-Err-clause-same
returns-in-Err-clause-same c = c.in-Err.ensures.same

pub returns-in-Err-clause-bound : goal.returns-in-Err-clause-bound
returns-in-Err-clause-bound c = c.in-Err.ensures.bound
