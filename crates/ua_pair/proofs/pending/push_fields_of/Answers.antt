use Rattle.ua_pair.proofs.pending.push_fields_of.Goals as goal

pub returns-in-Message : goal.returns-in-Message
returns-in-Message c = rw c.in-Message.is c.push_message_fields.ensures

pub returns-in-Opening : goal.returns-in-Opening
returns-in-Opening c = rw c.in-Opening.is c.push_opening_fields.ensures
