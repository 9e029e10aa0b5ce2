use Rattle.ua_frame.proofs.Unique.{unique}
use Rattle.ua_frame.proofs.laws.one_reading.Goals as goal

pub returns : goal.returns
returns g c = λ rules. unique rules
