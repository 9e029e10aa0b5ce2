use Rattle.std.proofs.Common.{inr, refl}
use Rattle.ua_serving.proofs.Serves.{at_any_stop, none_told}
use Rattle.ua_serving.proofs.serve.serve_beside.Goals as goal

pub returns-in_err-serve_silently-clause-stopped : goal.returns-in_err-serve_silently-clause-stopped
returns-in_err-serve_silently-clause-stopped g c = at_any_stop _ _ (λ stop. inr (none_told _ _ _ _ refl))
