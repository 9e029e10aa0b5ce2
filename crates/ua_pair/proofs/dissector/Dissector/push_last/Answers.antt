use Rattle.std.proofs.lemmas.Result.{on_ok_weaker}
use Rattle.ua_pair.proofs.Dissections.{ends_refused}
use Rattle.ua_pair.proofs.dissector.Dissector.push_last.Goals as goal

pub returns-in-Refused-clause-last : goal.returns-in-Refused-clause-last
returns-in-Refused-clause-last c = λ options octets told s.
    on_ok_weaker c.push_refused_line.result (λ grown. ends_refused c.args.self.now options octets told _ _ c.in-Refused.code s c.in-Refused.is grown)
    c.push_refused_line.ensures
