use Rattle.ua_pair.proofs.Readings.{one_reading}
use Rattle.ua_pair.proofs.laws.one_reading.Goals as goal

pub returns : goal.returns
returns c = one_reading
