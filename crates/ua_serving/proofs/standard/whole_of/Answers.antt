use Rattle.std.proofs.Common.{List, ℕ, ap, map}
use denote.Ref.{Bor}
use Rattle.ua_serving.proofs.Standards.{at_fault, of_namespaces, of_nodes, whole_so}
use Rattle.ua_serving.proofs.standard.whole_of.Goals as goal

pub returns-in_err-uris-clause-faults : goal.returns-in_err-uris-clause-faults
returns-in_err-uris-clause-faults c = at_fault _ _ c.in_err-uris.field-0.0 c.from_residual.ensures.1 (of_namespaces _ _ c.in_err-uris.ensures.faults)

pub returns-in_err-nodes-clause-faults : goal.returns-in_err-nodes-clause-faults
returns-in_err-nodes-clause-faults c = at_fault _ _ c.in_err-nodes.field-0.0 c.from_residual-in_err-nodes.ensures.1 (of_nodes _ _ c.in_err-nodes.ensures.faults)

pub returns-clause-whole : goal.returns-clause-whole
returns-clause-whole c =
    whole_so _ _ _ _ _ _ c.in_ok-nodes.ensures.nodes c.in_ok-uris.ensures.named c.in_ok-text.ensures
    (ap (map (λ (uri : Bor (List ℕ)). uri.now)) c.deref.ensures.value) c.lacks_current_time-keeps_time.ensures
