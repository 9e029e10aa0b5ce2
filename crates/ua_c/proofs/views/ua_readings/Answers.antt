use Rattle.std.proofs.Common.{Err, List, Ok, refl, subst}
use Rattle.ua_c.specs.Views.{PutsReadings}
use Rattle.ua_c.specs.declared.readings.UaReading.{UaReading}
use Rattle.ua_c.proofs.views.ua_readings.Goals as goal

-- the readings, where they fit
pub returns-in-Ok : goal.returns-in-Ok
returns-in-Ok c = record {
  made = Ok c.in-Ok.made.items;
  is = c.in-Ok.ensures.readings;
  puts = subst (λ (rs : List UaReading). PutsReadings rs c.args.readings.now c.put_readings.new.buffer c.put_readings.new.count c.put_readings.result)
      c.as_slice.ensures.value c.put_readings.ensures;
}

-- why there are none
pub returns-in-Err : goal.returns-in-Err
returns-in-Err c = record { made = Err c.in-Err.status; is = c.in-Err.ensures.fault; puts = (refl, refl, refl) }
