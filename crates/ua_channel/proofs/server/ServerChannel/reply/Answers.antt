use Rattle.ua_channel.proofs.Replies.{fault_is, sent_is_no_fault}
use Rattle.ua_channel.proofs.server.ServerChannel.reply.Goals as goal

pub returns-in-Ok-clause-stands : goal.returns-in-Ok-clause-stands
returns-in-Ok-clause-stands c = c.in-Ok.ensures.stands

pub returns-in-Ok-clause-sent : goal.returns-in-Ok-clause-sent
returns-in-Ok-clause-sent c = λ octets frames rest s. let r = c.in-Ok.ensures.sent octets frames rest s in (r.0, r.1, r.2)

pub returns-in-Ok-clause-not_open : goal.returns-in-Ok-clause-not_open
returns-in-Ok-clause-not_open c = (sent_is_no_fault _ _, λ none. sent_is_no_fault _ _ (c.in-Ok.ensures.not_open.1 none))

pub returns-in-Ok-clause-unchanged : goal.returns-in-Ok-clause-unchanged
returns-in-Ok-clause-unchanged c = sent_is_no_fault _ _

pub returns-in-Ok-clause-before : goal.returns-in-Ok-clause-before
returns-in-Ok-clause-before c = λ octets frames rest s.
    (sent_is_no_fault _ _, λ none. sent_is_no_fault _ _ ((c.in-Ok.ensures.before octets frames rest s).1 none))

pub returns-in-Ok-clause-failed : goal.returns-in-Ok-clause-failed
returns-in-Ok-clause-failed c = sent_is_no_fault _ _

pub returns-in-Ok-clause-bound : goal.returns-in-Ok-clause-bound
returns-in-Ok-clause-bound c = c.in-Ok.ensures.bound

pub returns-in-Ok-clause-limits : goal.returns-in-Ok-clause-limits
returns-in-Ok-clause-limits c = c.in-Ok.ensures.limits

pub returns-in-Ok-clause-channel : goal.returns-in-Ok-clause-channel
returns-in-Ok-clause-channel c = c.in-Ok.ensures.channel

pub returns-in-Err-clause-not_open : goal.returns-in-Err-clause-not_open
returns-in-Err-clause-not_open c = (
  λ e. c.in-Err.ensures.not_open.0 (fault_is _ _ e),
  λ none. fault_is _ _ (c.in-Err.ensures.not_open.1 none),
)

pub returns-in-Err-clause-unchanged : goal.returns-in-Err-clause-unchanged
returns-in-Err-clause-unchanged c = λ e. c.in-Err.ensures.unchanged (fault_is _ _ e)

pub returns-in-Err-clause-before : goal.returns-in-Err-clause-before
returns-in-Err-clause-before c = λ octets frames rest s.
    let h = c.in-Err.ensures.before octets frames rest s in (λ e. h.0 (fault_is _ _ e), λ none. fault_is _ _ (h.1 none))

pub returns-in-Err-clause-failed : goal.returns-in-Err-clause-failed
returns-in-Err-clause-failed c = λ e. c.in-Err.ensures.failed (fault_is _ _ e)

pub returns-in-Err-clause-bound : goal.returns-in-Err-clause-bound
returns-in-Err-clause-bound c = c.in-Err.ensures.bound

pub returns-in-Err-clause-limits : goal.returns-in-Err-clause-limits
returns-in-Err-clause-limits c = c.in-Err.ensures.limits

pub returns-in-Err-clause-channel : goal.returns-in-Err-clause-channel
returns-in-Err-clause-channel c = c.in-Err.ensures.channel
