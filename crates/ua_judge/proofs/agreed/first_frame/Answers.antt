use Rattle.ua_judge.proofs.Firsts.{first_none, first_some}
use Rattle.ua_judge.proofs.agreed.first_frame.Goals as goal

pub returns-in-Some-clause-first : goal.returns-in-Some-clause-first
returns-in-Some-clause-first c = first_some c.args.octets.now c.in-Some.frame.now c.in-Some.field-0-1.now c.in-Some.ensures.0 c.in-Some.ensures.1

pub returns-in-None-clause-first : goal.returns-in-None-clause-first
returns-in-None-clause-first c = first_none c.args.octets.now c.in-None.ensures
