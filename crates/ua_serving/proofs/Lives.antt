-- What a reading of a node file changes, one node after the other.
use Rattle.std.proofs.Common.{◌≡◌, List, [], ◌∷◌, ◌++◌, Result}
use Rattle.std.proofs.Common.{Ok, Err, OnErr, refl, sym, ap, ◌∙◌, append_assoc, append-nil}
use Rattle.ua_builtin.specs.declared.date_time.DateTime.{DateTime}
use Rattle.ua_node_files.specs.Changed.{with_all_changed, with_changed}
use Rattle.ua_nodes.specs.Table.{Nodes}
use Rattle.ua_nodes.specs.declared.node.Node.{Node}
use Rattle.ua_server.specs.State.{State, with_nodes}
use Rattle.ua_serving.specs.Live.{TakesSomeNodes}

-- ---- nodes that changed

-- some nodes were taken, and these are left
pub record TakenSo (moment : DateTime) (all rest : List Node) (old new : State) : Type 0 where
  pub done : List Node
  pub parts : done ++ rest ≡ all
  pub taken : new ≡ with_nodes old (with_all_changed moment done old.nodes)

all_one_more : (moment : DateTime) (done : List Node) (node : Node) (nodes : Nodes) → with_all_changed moment (done ++ node ∷ []) nodes
    ≡ with_changed moment node (with_all_changed moment done nodes)
all_one_more moment [] node nodes = refl
all_one_more moment (d ∷ done) node nodes = all_one_more moment done node (with_changed moment d nodes)

pub taken_more : (moment : DateTime) (all here rest : List Node) (node : Node) (old mid new : State) → here ≡ node ∷ rest → TakenSo moment all here old mid
    → new ≡ with_nodes mid (with_changed moment node mid.nodes) → TakenSo moment all rest old new
taken_more moment all here rest node old mid new steps so put = record {
  done = so.done ++ node ∷ [];
  parts = append_assoc so.done (node ∷ []) rest ∙ ap (λ (x : List Node). so.done ++ x) (sym steps) ∙ so.parts;
  taken = put ∙ ap (λ (s : State). with_nodes s (with_changed moment node s.nodes)) so.taken
      ∙ ap (λ (n : Nodes). with_nodes old n) (sym (all_one_more moment so.done node old.nodes));
}

-- none is left
pub taken_all : (moment : DateTime) (all rest : List Node) (old new : State) → rest ≡ [] → TakenSo moment all rest old new
    → new ≡ with_nodes old (with_all_changed moment all old.nodes)
taken_all moment all rest old new none so =
    let whole : so.done ≡ all = sym (append-nil so.done) ∙ ap (λ (x : List Node). so.done ++ x) (sym none) ∙ so.parts in
    so.taken ∙ ap (λ (d : List Node). with_nodes old (with_all_changed moment d old.nodes)) whole

pub on_err : {T E : Type 0} (r : Result T E) (P : Type 0) → P → OnErr r P
on_err (Ok value) P p = tt
on_err (Err fault) P p = p

-- the next one was not taken
pub taken_some : (moment : DateTime) (all rest : List Node) (old mid new : State) → new ≡ mid → TakenSo moment all rest old mid
    → TakesSomeNodes moment all old new
taken_some moment all rest old mid new same so = record { first = so.done; rest = rest; parts = sym so.parts; taken = same ∙ so.taken }

-- ---- a look at a file

-- ---- the nodes alone change
