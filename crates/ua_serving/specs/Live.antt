-- What changes beside the clients of `ua serve --live`.
use Rattle.std.specs.Prelude.{◌≡◌, ◌⊎◌, ◌++◌, List, ℕ, Option, None, Some, map, string_bytes}
use Rattle.ua_builtin.specs.declared.date_time.DateTime.{DateTime}
use Rattle.ua_node_files.specs.Changed.{Changes, entry_of, with_all_changed}
use Rattle.ua_nodes.specs.declared.node.Node.{Node}
use Rattle.ua_server.specs.State.{State, with_nodes}
use Rattle.ua_serving.specs.declared.live.LiveFile.{LiveFile}

-- the first of the nodes that changed were taken at a time, and an allocation failed for the next
-- one
pub record TakesSomeNodes (moment : DateTime) (changed : List Node) (old new : State) : Type 0 where
  pub first : List Node
  pub rest : List Node
  pub parts : changed ≡ first ++ rest
  pub taken : new ≡ with_nodes old (with_all_changed moment first old.nodes)

-- what a reading changes of the services: all that its lines change of those of the last one, and
-- it is the last one from then on; or only the first part, since an allocation failed, and the last
-- reading stays what it was
pub record TakesReading (last after : List ℕ) (old new : State) : Type 0 where
  pub text : List ℕ
  pub changed : List Node
  pub are : Changes last text (map entry_of changed)
  pub moment : DateTime
  pub taken : ((after ≡ text) × (new ≡ with_nodes old (with_all_changed moment changed old.nodes))) ⊎ ((after ≡ last) × TakesSomeNodes moment changed old new)

-- a look at a file: nothing has changed, or a reading was taken
abbrev pub FollowsFile : {F : Type 0} → LiveFile F → State → LiveFile F → State → Type 0
FollowsFile before old after new = ((string_bytes after.text ≡ string_bytes before.text) × (new ≡ old))
    ⊎ TakesReading (string_bytes before.text) (string_bytes after.text) old new

-- the same where no file may be followed: then nothing has changed
abbrev pub LooksAt : {F : Type 0} → Option (LiveFile F) → State → Option (LiveFile F) → State → Type 0
LooksAt None old after new = (after ≡ None) × (new ≡ old)
LooksAt (Some before) old (Some after) new = FollowsFile before old after new
LooksAt (Some before) old None new = ⊥
