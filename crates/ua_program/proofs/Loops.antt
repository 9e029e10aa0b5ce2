-- What is printed of a script.
use Rattle.std.proofs.Common.{◌≡◌, ℕ, Bool, List, Option, subst, string_bytes}
use Rattle.std.specs.Io.KnownBytes.{Appends}
use Rattle.ua_report.specs.declared.loop_fault.LoopFault.{LoopFault}
use Rattle.ua_program.specs.declared.script.looped.Looped.{Looped}
use Rattle.ua_nodes.specs.NodeFile.{WriteNodes, node_lines}
use Rattle.ua_nodes.specs.Table.{Nodes}
use Rattle.ua_program.specs.Looped.{HasLooped, RunsScript}

-- what came of a script over the nodes of a text was added to a writer
pub looped_of : (people names : Bool) (fault : Option LoopFault) (text script shown : List ℕ) (loaded nodes : Nodes) (l : Looped) (old new : Option (List ℕ))
    → WriteNodes (node_lines text) loaded → RunsScript people names nodes script l → loaded ≡ nodes → l.fault ≡ fault → shown ≡ string_bytes l.text
    → Appends old new shown
    → HasLooped people names fault old new
looped_of people names fault text script shown loaded nodes l old new written runs same fault_is shown_is added = record {
  nodes_text = text;
  nodes = nodes;
  written = subst (λ n. WriteNodes (node_lines text) n) same written;
  script = script;
  looped = l;
  runs = runs;
  fault_is = fault_is;
  added = subst (λ t. Appends old new t) shown_is added;
}
