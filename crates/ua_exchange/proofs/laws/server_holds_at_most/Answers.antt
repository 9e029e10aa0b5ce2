use Rattle.std.proofs.Common.{arith}
use Rattle.ua_channel.specs.Received.{received}
use Rattle.ua_channel.specs.ServerStands.{limits_of}
use Rattle.ua_server.specs.Served.{channel_in}
use Rattle.ua_exchange.proofs.Held.{server_most}
use Rattle.ua_exchange.proofs.laws.server_holds_at_most.Goals as goal

pub returns-clause-agreed : goal.returns-clause-agreed
returns-clause-agreed c = λ octets frames rest s. omega (arith, c.held-held.ensures.held octets frames rest s, c.held-held.ensures.bound octets frames rest s)

pub returns-clause-most : goal.returns-clause-most
returns-clause-most c = λ octets frames rest ours s. server_most (limits_of (channel_in c.args.server.now)) (received frames).hello ours
