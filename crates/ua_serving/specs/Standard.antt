-- What `ua serve --standard` serves: the nodes of a file, and those of the standard that it lacks.
use Rattle.std.specs.Prelude.{◌≡◌, ℕ, ℤ, Bool, List}
use Rattle.ua_node_files.specs.CurrentTime.{current_time, current_time_id}
use Rattle.ua_node_files.specs.Namespaces.{AreNamed, namespace_lines}
use Rattle.ua_node_files.specs.Standard.{lacks, standard_text}
use Rattle.ua_nodes.specs.NodeFile.{WriteNodes, node_lines}
use Rattle.ua_nodes.specs.Set.{after_set}
use Rattle.ua_nodes.specs.Table.{Nodes}
use Rattle.ua_server.specs.State.{State, with_nodes}
use Rattle.ua_serving.specs.Served.{BeginsWith}
use Rattle.ua_serving.specs.declared.time_keeper.TimeKeeper.{TimeKeeper}

-- the lines of a text define nodes and name namespaces, and this is the text with the standard's
-- nodes that they lack; the server keeps its time if CurrentTime is one of these
pub record IsWithStandardNodes (text : List ℕ) (keeps_time : Bool) (whole : List ℕ) : Type 0 where
  pub nodes : Nodes
  pub written : WriteNodes (node_lines text) nodes
  pub uris : List (List ℕ)
  pub named : AreNamed (namespace_lines text) uris
  pub whole_is : whole ≡ standard_text nodes uris text
  pub keeps_is : keeps_time ≡ lacks nodes 2258

-- no session was made yet, over the nodes that the lines of this text define, and those of the
-- standard that they lack
pub record BeginsStandard (text : List ℕ) (port : ℕ) (keeps_time : Bool) (services : State) : Type 0 where
  pub whole : List ℕ
  pub is : IsWithStandardNodes text keeps_time whole
  pub begins : BeginsWith whole port services

-- CurrentTime was set to a time, which is its source timestamp too, and nothing else has changed
pub record KeepsTime {M : Type 0} (gives : M → ℤ → M → Type 0) (before : TimeKeeper M) (old : State) (after : TimeKeeper M) (new : State) : Type 0 where
  pub ticks : ℤ
  pub given : gives before.moments ticks after.moments
  pub set : new ≡ with_nodes old (after_set current_time_id (current_time (record { ticks = ticks })) old.nodes)
