use Rattle.ua_channel.proofs.AskedNext.{next_open, next_first}
use Rattle.ua_channel.proofs.client.channel.ClientChannel.next_id.Goals as goal

pub returns-in-Open-clause-stands : goal.returns-in-Open-clause-stands
returns-in-Open-clause-stands c = λ asks octets frames rest h. next_open c.args.self.now c.in-Open.talking asks octets frames rest c.in-Open.is h

pub returns-in_default-clause-stands : goal.returns-in_default-clause-stands
returns-in_default-clause-stands c = λ asks octets frames rest h. next_first c.args.self.now asks octets frames rest c.in_default.not-Open h
