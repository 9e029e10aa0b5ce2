use Rattle.std.proofs.Common.{ℕ, ap}
use Rattle.ua_server.specs.declared.serve_fault.ServeFault.{ServeFault}
use Rattle.ua_server.specs.declared.serve_fault.ServeFault.TheVariants as fault
use Rattle.ua_server.specs.declared.serving.Serving.{Serving}
use Rattle.ua_server.proofs.serving.Serving.say.Goals as goal

pub returns-in-Ok-clause-says : goal.returns-in-Ok-clause-says
returns-in-Ok-clause-says g c =
    let counted_so : ℕ → Serving = λ n. record c.args.self.now { written = n } in
    (ap counted_so c.saturating_add-self.ensures, c.in-Ok.ensures.wrote)

pub returns-in-Ok-clause-failed : goal.returns-in-Ok-clause-failed
returns-in-Ok-clause-failed g c = c.in-Ok.ensures.failed

pub returns-in-Err-clause-says : goal.returns-in-Err-clause-says
returns-in-Err-clause-says g c =
    let failed_behind : ℕ → ServeFault = λ n. fault.Write n in
    (c.in-Err.n, ap failed_behind c.saturating_add.ensures, c.in-Err.ensures.within, c.in-Err.ensures.wrote)

pub returns-in-Err-clause-failed : goal.returns-in-Err-clause-failed
returns-in-Err-clause-failed g c = c.in-Err.ensures.failed
