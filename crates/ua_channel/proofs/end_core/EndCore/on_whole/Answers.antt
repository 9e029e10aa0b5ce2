use Rattle.std.proofs.Common.{refl, ◌∙◌}
use Rattle.ua_channel.proofs.Ends.{end_with, refused_so, whole_so}
use Rattle.ua_channel.proofs.end_core.EndCore.on_whole.Goals as goal

pub returns-in-Ok-clause-judges : goal.returns-in-Ok-clause-judges
returns-in-Ok-clause-judges g c = λ k frames next reader.
    whole_so g.R.EndRules.side (end_with c.args.self.now c.args.self.now.reader c.on_frame.new.phase c.on_frame.new.bound) _ k frames c.args.frame c.in-Ok.event
    c.gate-gate.result (c.in-Ok.ensures.judges k frames next) refl reader c.set_gate.ensures c.gate-gate.ensures

pub returns-in-Err-clause-judges : goal.returns-in-Err-clause-judges
returns-in-Err-clause-judges g c = λ k frames next reader.
    refused_so g.R.EndRules.side (end_with c.args.self.now c.args.self.now.reader c.on_frame.new.phase c.on_frame.new.bound) c.fail.new.self k frames
    c.args.frame c.in-Err.fault c.fail.ensures.kept (c.in-Err.ensures.judges k frames next) c.fail.ensures.done (c.in-Err.ensures.failed ∙ next.bound_is)
