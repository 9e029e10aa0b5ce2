use Rattle.std.proofs.Common.{ℕ, List}
use Rattle.ua_builtin.specs.Reasons.{first_reason}
use Rattle.ua_channel.specs.Asks.{asked_in}
use Rattle.ua_channel.specs.ClientAsks.{ask_reasons, call_reasons}
use Rattle.ua_channel.specs.Received.{received}
use Rattle.ua_channel.proofs.ClientSending.{call_at, call_closed, judges_as}
use Rattle.ua_channel.proofs.client.channel.ClientChannel.judge.Goals as goal

pub returns-in-Open-clause-stands : goal.returns-in-Open-clause-stands
returns-in-Open-clause-stands c = λ asks octets frames rest h.
    judges_as (λ (body : List ℕ). first_reason (ask_reasons c.in-Open.talking c.args.before body))
    (λ (body : List ℕ). first_reason (call_reasons (received frames) (asked_in asks) c.args.before body)) c.args.len c.judge.result
    (call_at c.args.self.now asks octets frames rest h c.in-Open.talking c.in-Open.is c.args.before) c.judge.ensures

pub returns-in_default-clause-stands : goal.returns-in_default-clause-stands
returns-in_default-clause-stands c = λ asks octets frames rest h body is.
    call_closed c.args.self.now asks octets frames rest h c.in_default.not-Open c.args.before body
