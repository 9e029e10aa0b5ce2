use Rattle.std.proofs.Common.{refl}
use Rattle.ua_texts.specs.StatusCodes.{status_codes}
use Rattle.ua_texts.proofs.names.known_codes.Goals as goal

-- by computation, code by code
pub returns : goal.returns
unfolding status_codes
returns c = refl
