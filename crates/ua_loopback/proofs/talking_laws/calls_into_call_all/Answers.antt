use Rattle.ua_loopback.proofs.Calling.{into_all}
use Rattle.ua_loopback.proofs.talking_laws.calls_into_call_all.Goals as goal

pub returns : goal.returns
returns g c = λ requests x y before after result had have calls. (calls.added, calls.have_is, into_all requests x y before after result had have calls)
