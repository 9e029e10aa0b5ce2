use Rattle.ua_c.proofs.Replied.{announces_other, no_id}
use Rattle.ua_c.proofs.views.readings_in.Goals as goal

-- no NodeId was read
pub returns-in-Err-clause-fault : goal.returns-in-Err-clause-fault
returns-in-Err-clause-fault c = no_id c.args.body.now c.new-source.result c.read_value.new.src c.in-Err.fault c.status_of.result c.new-source.ensures
    c.in-Err.ensures.exact c.status_of.ensures

-- it announces another message
pub returns-then-not-announces_read-clause-readings : goal.returns-then-not-announces_read-clause-readings
returns-then-not-announces_read-clause-readings c =
    announces_other c.args.body.now c.new-source.result c.read_value.new.src c.in-Ok.id c.announces_read.result c.new-source.ensures c.in-Ok.ensures.exact
    c.announces_read.ensures c.if-not-announces_read.true
