use Rattle.ua_channel.proofs.ClientSending.{close_closed}
use Rattle.ua_channel.proofs.client.channel.ClientChannel.closing.Goals as goal

pub returns-in_default-clause-refuses : goal.returns-in_default-clause-refuses
returns-in_default-clause-refuses c = λ asks octets frames rest h. close_closed c.args.self.now asks octets frames rest h c.in_default.not-Open
