use Rattle.std.proofs.Common.{Ok, Err, Some, refl, ◌∙◌}
use Rattle.ua_channel.specs.Content.{content}
use Rattle.ua_channel.specs.declared.client.event.Event.TheVariants as event
use Rattle.ua_channel.specs.declared.client.phase.Phase.TheVariants.{Open}
use Rattle.ua_channel.proofs.ClientPhases.{agreed_judged, open_judged, opening_takes}
use Rattle.ua_channel.proofs.client.rules.ClientRules.judge.Goals as goal

pub returns-in-Open-clause-judges : goal.returns-in-Open-clause-judges
returns-in-Open-clause-judges c = λ before asked in_phase bound_is let_in.
    open_judged c.args.self.now.limits c.args.phase.now before asked c.args.frame (Open c.on_frame.new.self) c.args.bound.now c.on_frame.result in_phase let_in
    c.in-Open.talking c.on_frame.new.self c.in-Open.is refl bound_is (c.on_frame.ensures c.args.self.now.limits before asked)

pub returns-in-Ok-on_first-clause-judges : goal.returns-in-Ok-on_first-clause-judges
returns-in-Ok-on_first-clause-judges c = λ before asked in_phase bound_is let_in.
    agreed_judged c.args.self.now.limits c.args.phase.now before asked c.args.frame (Open c.in-Ok-on_first.talking) c.args.bound.now
    (Ok (Some (event.Opened c.in-Ok-on_first.talking.channel c.in-Ok-on_first.talking.newest))) in_phase let_in c.in-Agreed.agreed c.in-Agreed.is
    (λ same here.
    let j = c.in-Ok-on_first.ensures here in
    (j.0, opening_takes c.args.self.now.limits c.in-Agreed.agreed (content c.args.frame) c.in-Ok-on_first.talking c.args.bound.now (bound_is ∙ same) j.1))

pub returns-in-Err-on_first-clause-judges : goal.returns-in-Err-on_first-clause-judges
returns-in-Err-on_first-clause-judges c = λ before asked in_phase bound_is let_in.
    agreed_judged c.args.self.now.limits c.args.phase.now before asked c.args.frame c.args.phase.now c.args.bound.now (Err c.in-Err-on_first.fault) in_phase
    let_in c.in-Agreed.agreed c.in-Agreed.is (λ same here. c.in-Err-on_first.ensures here)
