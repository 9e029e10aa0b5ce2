-- Why texts are rejected that name namespaces, and have the standard's nodes after them.
use Rattle.std.specs.Prelude.{◌≡◌, ◌⊎◌, ℕ, Bool, List}
use Rattle.ua_node_files.specs.Namespaces.{IsFirstUnnamed, namespace_lines}
use Rattle.ua_nodes.specs.declared.fault.LineReason.TheVariants.{Fields}
use Rattle.ua_report.specs.Refused.{RefusesNodeFileLine}
use Rattle.ua_report.specs.declared.fault.Fault.{Fault}
use Rattle.ua_report.specs.declared.fault.Fault.TheVariants.{Line, NoMemory}
use Rattle.ua_serving.specs.Standard.{IsWithStandardNodes}

-- the first line that was meant to name a namespace and does not name the next one: it is told as a
-- line that does not have its fields
pub record RefusesNamespace (text : List ℕ) (fault : Fault) : Type 0 where
  pub number : ℕ
  pub fault_is : fault ≡ Line number Fields
  pub bad : IsFirstUnnamed (namespace_lines text) number

-- a bad line of the text with the standard's nodes after it
pub record RefusesWhole (text : List ℕ) (fault : Fault) : Type 0 where
  pub keeps_time : Bool
  pub whole : List ℕ
  pub is : IsWithStandardNodes text keeps_time whole
  pub refused : RefusesNodeFileLine whole fault

-- a bad line of a node file that names namespaces, or of the nodes after it, unless an allocation
-- failed
abbrev pub RefusesStandard : List ℕ → Fault → Type 0
RefusesStandard text fault = (fault ≡ NoMemory) ⊎ RefusesNamespace text fault ⊎ RefusesNodeFileLine text fault ⊎ RefusesWhole text fault
