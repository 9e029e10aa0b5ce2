-- A node file with the standard's nodes behind it.
use Rattle.std.proofs.Common.{◌≡◌, ◌⊎◌, inl, inr, ℕ, Bool, List, Result, Ok, Err, IfErr, IsErrAnd, sym, subst, ap, ◌∙◌}
use Rattle.ua_node_files.specs.Namespaces.{AreNamed, namespace_lines}
use Rattle.ua_node_files.specs.Standard.{lacks, standard_text}
use Rattle.ua_nodes.specs.NodeFile.{WriteNodes, node_lines}
use Rattle.ua_nodes.specs.Table.{Nodes}
use Rattle.ua_report.specs.Refused.{RefusesNodes}
use Rattle.ua_serving.specs.Refused.{RefusesNamespace, RefusesStandard}
use Rattle.ua_serving.specs.Served.{BeginsWith}
use Rattle.ua_serving.specs.Standard.{BeginsStandard, IsWithStandardNodes}
use Rattle.ua_report.specs.declared.fault.Fault.{Fault}
use Rattle.ua_report.specs.declared.fault.Fault.TheVariants.{NoMemory}
use Rattle.ua_server.specs.State.{State}

-- what holds of a fault holds of that which it became
pub at_fault : {T : Type 0} (P : Fault → Type 0) (r : Result T Fault) (fault : Fault) → IsErrAnd r (λ e. e ≡ fault) → P fault → IfErr r P
at_fault P (Ok x) fault h p = absurd h
at_fault P (Err e) fault h p = subst P (sym h) p

-- the whole text of a file whose lines write nodes and name namespaces
pub whole_so : (text whole : List ℕ) (nodes : Nodes) (uris passed : List (List ℕ)) (keeps_time : Bool) → WriteNodes (node_lines text) nodes
    → AreNamed (namespace_lines text) uris
    → whole ≡ standard_text nodes passed text → passed ≡ uris → keeps_time ≡ lacks nodes 2258 → IsWithStandardNodes text keeps_time whole
whole_so text whole nodes uris passed keeps_time written named is same keeps = record {
  nodes = nodes;
  written = written;
  uris = uris;
  named = named;
  whole_is = is ∙ ap (λ (us : List (List ℕ)). standard_text nodes us text) same;
  keeps_is = keeps;
}

-- a file is refused for what its namespaces are, or its nodes
pub of_namespaces : (text : List ℕ) (fault : Fault) → (fault ≡ NoMemory) ⊎ RefusesNamespace text fault → RefusesStandard text fault
of_namespaces text fault (inl memory) = inl memory
of_namespaces text fault (inr bad) = inr (inl bad)

pub of_nodes : (text : List ℕ) (fault : Fault) → RefusesNodes text fault → RefusesStandard text fault
of_nodes text fault (inl memory) = inl memory
of_nodes text fault (inr bad) = inr (inr (inl bad))

-- services over the whole text begin with what the file has
pub begins_so : (text whole passed : List ℕ) (port : ℕ) (keeps_time : Bool) (services : State) → IsWithStandardNodes text keeps_time whole → passed ≡ whole
    → BeginsWith passed port services
    → BeginsStandard text port keeps_time services
begins_so text whole passed port keeps_time services is same begins =
    record { whole = whole; is = is; begins = subst (λ t. BeginsWith t port services) same begins }
