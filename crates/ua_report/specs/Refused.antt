-- Why texts are rejected.
use Rattle.std.specs.Prelude.{◌≡◌, ◌⊎◌, ℕ, List}
use Rattle.ua_nodes.specs.NodeFile.{IsFirstBad, node_lines}
use Rattle.ua_nodes.specs.declared.fault.LineReason.{LineReason}
use Rattle.ua_report.specs.declared.fault.Fault.{Fault}
use Rattle.ua_report.specs.declared.fault.Fault.TheVariants.{Line, NoMemory}

-- a bad line of a node file: it is the first one, and the reason is the first against it
pub record RefusesNodeFileLine (text : List ℕ) (fault : Fault) : Type 0 where
  pub number : ℕ
  pub reason : LineReason
  pub fault_is : fault ≡ Line number reason
  pub bad : IsFirstBad (node_lines text) number reason

-- the fault is that of the first bad line of a node file, unless an allocation failed
abbrev pub RefusesNodes : List ℕ → Fault → Type 0
RefusesNodes text fault = (fault ≡ NoMemory) ⊎ RefusesNodeFileLine text fault
