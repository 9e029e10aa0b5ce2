use Rattle.ua_channel.proofs.Frames.{judged}
use Rattle.ua_channel.proofs.server_rules.ServerRulesEndRulesPhase.on_frame.Goals as goal

pub returns-clause-judges : goal.returns-clause-judges
returns-clause-judges c = judged c.args.self.now c.args.phase.now c.judge.new.phase c.args.bound.now c.judge.new.bound c.args.frame c.judge.result
    c.judge.ensures.judges
