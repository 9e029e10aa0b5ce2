use Rattle.std.proofs.Common.{Global, Vec, arith}
use Rattle.std.proofs.lemmas.Result.{err_from_is_err_and}
use Rattle.ua_c.specs.Views.{AreViews, IsView}
use Rattle.ua_c.specs.declared.readings.UaReading.{UaReading}
use Rattle.ua_c.proofs.Seen.{seen_all, seen_fault, seen_none, seen_pushed}
use Rattle.ua_c.proofs.views.view_each.Goals as goal

-- nothing was seen yet
pub loop-init : goal.loop-init
loop-init c = record { seen = seen_none _ _ _ _ _ (omega arith) c.new-readings.ensures.items; behind = c.requires.stands }

-- one more was seen
pub loop-preserved : goal.loop-preserved
loop-preserved c = record {
  seen = seen_pushed c.args.body.now c.args.source.now c.loop.source c.view_value.new.source c.args.count c.loop.counter c.loop.readings.items
      c.push.new.self.items c.in_ok-reading.reading
      c.loop-test.true c.loop.invariant.seen c.in_ok-reading.ensures.sees c.in_ok-push.ensures.items;
  behind = c.in_ok-reading.ensures.behind;
}

-- one was not read
pub returns-in_err-reading-clause-sees : goal.returns-in_err-reading-clause-sees
returns-in_err-reading-clause-sees c =
    let p = err_from_is_err_and c.from_residual.result c.from_residual.ensures.1 in
    rw (p.1, p.2) (seen_fault {X = UaReading} {Y = Vec UaReading Global} (λ reading d. IsView c.args.body.now d reading)
    (λ readings ds. AreViews c.args.body.now ds readings.items) c.args.body.now c.args.source.now c.loop.source
    c.view_value.new.source c.view_value.new.source c.args.count c.loop.counter c.loop.readings.items c.in_err-reading.field-0.0 c.loop-test.true
    c.loop.invariant.seen c.in_err-reading.ensures.sees)

-- all were seen
pub returns-clause-sees : goal.returns-clause-sees
returns-clause-sees c = seen_all c.args.body.now c.args.source.now c.loop.source c.args.count c.loop.counter c.loop.readings.items c.loop-test.false
    c.loop.invariant.seen
