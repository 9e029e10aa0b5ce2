use Rattle.std.proofs.Common.{◌∙◌, sym}
use Rattle.ua_pair.proofs.Refusing.{refused_is, refused_stays}
use Rattle.ua_pair.proofs.dissector.Dissector.has_refused.Goals as goal

pub returns-clause-refused : goal.returns-clause-refused
returns-clause-refused c = λ options octets told s. c.is_refused.ensures ∙ refused_is c.args.self.now options octets told s

pub returns-clause-stays : goal.returns-clause-stays
returns-clause-stays c = λ options octets told more refused s. refused_stays c.args.self.now options octets told more (sym c.is_refused.ensures ∙ refused) s
