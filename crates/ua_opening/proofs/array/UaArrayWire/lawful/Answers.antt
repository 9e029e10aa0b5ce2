use Rattle.ua_opening.proofs.ArrayLawful.{lawful_array}
use Rattle.ua_opening.proofs.array.UaArrayWire.lawful.Goals as goal

pub returns : goal.returns
returns g c = lawful_array c.lawful.ensures
