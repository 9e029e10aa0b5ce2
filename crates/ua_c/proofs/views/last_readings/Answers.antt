use Rattle.std.proofs.Common.{Global, Vec, arith, refl}
use Rattle.ua_c.specs.Views.{AreViewsOf}
use Rattle.ua_c.specs.declared.readings.UaReading.{UaReading}
use Rattle.ua_c.proofs.Replied.{no_reply, reply_found, reply_left}
use Rattle.ua_c.proofs.views.last_readings.Goals as goal

-- something stands behind it
pub returns-then-left-gt0-clause-fault : goal.returns-then-left-gt0-clause-fault
returns-then-left-gt0-clause-fault c =
    reply_left (λ m. AreViewsOf c.args.body.now m.results c.in-Ok.readings.items) c.args.body.now c.args.source.now c.view_response.new.source c.args.id.now _
    c.requires.id c.requires.kind c.in-Ok.ensures.sees
    (omega (arith, c.left.ensures, c.if-left-gt0.true)) refl

pub returns-else-left-gt0-clause-readings : goal.returns-else-left-gt0-clause-readings
returns-else-left-gt0-clause-readings c =
    reply_found c.args.body.now c.args.source.now c.view_response.new.source c.args.id.now c.in-Ok.readings.items c.requires.id c.requires.kind
    c.in-Ok.ensures.sees
    (omega (arith, c.left.ensures, c.if-left-gt0.false))

-- it is no response to a Read
pub returns-in-Err-clause-fault : goal.returns-in-Err-clause-fault
returns-in-Err-clause-fault c =
    no_reply {X = Vec UaReading Global} (λ readings m. AreViewsOf c.args.body.now m.results readings.items) c.args.body.now c.args.source.now
    c.view_response.new.source c.args.id.now c.in-Err.fault
    c.status_of.result c.requires.id c.requires.kind c.in-Err.ensures.sees c.status_of.ensures
