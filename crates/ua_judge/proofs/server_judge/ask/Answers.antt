use Rattle.std.proofs.Common.{Bool, Option, subst, sym}
use Rattle.ua_channel.specs.Client.{client_limits}
use Rattle.ua_channel.specs.ClientAsks.{AnswersFor}
use Rattle.ua_channel.specs.declared.client.fault.AskFault.{AskFault}
use Rattle.ua_judge.specs.Verdicts.{IsReasonAgainstAsking}
use Rattle.ua_judge.proofs.server_judge.ask.Goals as goal

pub returns-then-opens-clause-judged : goal.returns-then-opens-clause-judged
returns-then-opens-clause-judged c = λ requests asks octets s.
    subst (λ (opens : Bool). (why : Option AskFault) × (IsReasonAgainstAsking (client_limits c.args.client.now) asks requests opens octets why × AnswersFor why
    c.renew.result)) (sym c.if-opens.true)
    (c.renew.ensures.judged requests asks octets s)

pub returns-clause-judged : goal.returns-clause-judged
returns-clause-judged c = λ requests asks octets s.
    subst (λ (opens : Bool). (why : Option AskFault) × (IsReasonAgainstAsking (client_limits c.args.client.now) asks requests opens octets why × AnswersFor why
    c.call.result)) (sym c.if-opens.false)
    (c.call.ensures.judged requests asks octets s)
