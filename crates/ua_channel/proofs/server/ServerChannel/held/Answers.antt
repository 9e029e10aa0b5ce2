use Rattle.std.proofs.Common.{◌≤◌, ℕ, subst}
use Rattle.ua_channel.proofs.server.ServerChannel.held.Goals as goal

pub returns-clause-held : goal.returns-clause-held
returns-clause-held c = λ octets frames rest s. c.held.ensures.held tt octets frames rest s

pub returns-clause-bound : goal.returns-clause-bound
returns-clause-bound c = λ octets frames rest s. subst (λ (n : ℕ). c.held.result ≤ n) s.bound_is (c.held.ensures.bound tt octets frames rest s)
