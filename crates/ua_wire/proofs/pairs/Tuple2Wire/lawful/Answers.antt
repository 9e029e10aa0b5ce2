use Rattle.ua_wire.proofs.Lawfulness.{lawful_pair}
use Rattle.ua_wire.proofs.pairs.Tuple2Wire.lawful.Goals as goal

pub returns : goal.returns
returns g c = lawful_pair c.lawful.ensures c.lawful-2.ensures
