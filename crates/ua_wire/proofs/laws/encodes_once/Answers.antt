use Rattle.ua_wire.proofs.FormatLaws.{encodes_once_of}
use Rattle.ua_wire.proofs.laws.encodes_once.Goals as goal

pub returns : goal.returns
returns g c = encodes_once_of g.T.Wire.format c.lawful.ensures
