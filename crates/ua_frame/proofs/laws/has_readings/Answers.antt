use Rattle.ua_frame.proofs.Readings.{reading}
use Rattle.ua_frame.proofs.laws.has_readings.Goals as goal

pub returns : goal.returns
returns g c = λ rules. reading rules
