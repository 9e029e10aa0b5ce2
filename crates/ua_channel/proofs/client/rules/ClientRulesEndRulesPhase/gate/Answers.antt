use Rattle.std.proofs.Common.{◌∙◌}
use Rattle.ua_channel.specs.Asks.{asked_in}
use Rattle.ua_channel.specs.Received.{received}
use Rattle.ua_channel.proofs.ClientPhases.{gate_in}
use Rattle.ua_channel.proofs.client.rules.ClientRulesEndRulesPhase.gate.Goals as goal

pub returns : goal.returns
returns c = λ asks frames h. c.gate.ensures ∙ gate_in c.args.self.now.limits c.args.phase.now (received frames) (asked_in asks) h
