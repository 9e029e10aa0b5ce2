use Rattle.std.proofs.Common.{refl, sym, ◌∙◌}
use Rattle.ua_channel.proofs.ClientAsking.{talks_renewal, no_renewal}
use Rattle.ua_channel.proofs.client.talking.Talking.renew.Goals as goal

pub returns-clause-talks : goal.returns-clause-talks
returns-clause-talks c = λ limits before asked h. talks_renewal limits c.args.self.now _ before asked h refl
    (no_renewal c.args.self.now (sym c.renew_refusal.ensures ∙ c.in_default.is))
