use Rattle.std.proofs.Common.{arith}
use Rattle.ua_channel.proofs.Ends.{held_so}
use Rattle.ua_channel.proofs.end_core.EndCore.held.Goals as goal

pub returns-clause-held : goal.returns-clause-held
returns-clause-held g c = λ k octets frames rest s.
    (held_so g.R.EndRules.side c.args.self.now k octets frames rest c.held.result c.messages_held.result c.saturating_add.result s c.held.ensures.count
    c.held.ensures.bound (c.messages_held.ensures.held k frames s.phase_is) (c.messages_held.ensures.within k frames s.phase_is)
    (omega arith) c.saturating_add.ensures).0

pub returns-clause-bound : goal.returns-clause-bound
returns-clause-bound g c = λ k octets frames rest s.
    (held_so g.R.EndRules.side c.args.self.now k octets frames rest c.held.result c.messages_held.result c.saturating_add.result s c.held.ensures.count
    c.held.ensures.bound (c.messages_held.ensures.held k frames s.phase_is) (c.messages_held.ensures.within k frames s.phase_is)
    (omega arith) c.saturating_add.ensures).1
