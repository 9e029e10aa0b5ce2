use Rattle.ua_pair.proofs.pending.push_pending.Goals as goal

pub returns-in-Some : goal.returns-in-Some
returns-in-Some c = rw c.in-Some.is c.push_fields_of.ensures
