use Rattle.std.proofs.Common.{arith}
use Rattle.ua_channel.specs.Client.{client_limits}
use Rattle.ua_exchange.proofs.Held.{client_most}
use Rattle.ua_exchange.proofs.laws.client_holds_at_most.Goals as goal

pub returns-clause-agreed : goal.returns-clause-agreed
returns-clause-agreed c = λ asks octets frames rest s.
    omega (arith, c.held-held.ensures.held asks octets frames rest s, c.held-held.ensures.bound asks octets frames rest s, s.bound_is)

pub returns-clause-most : goal.returns-clause-most
returns-clause-most c = λ asks octets frames rest ours s. client_most (client_limits c.args.client.now) asks frames ours s.run.good
