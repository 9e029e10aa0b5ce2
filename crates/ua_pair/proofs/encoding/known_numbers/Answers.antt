use Rattle.std.proofs.Common.{refl}
use Rattle.ua_pair.specs.Encodings.{encodings}
use Rattle.ua_pair.proofs.encoding.known_numbers.Goals as goal

-- by computation, number by number
pub returns : goal.returns
unfolding encodings
returns c = refl
