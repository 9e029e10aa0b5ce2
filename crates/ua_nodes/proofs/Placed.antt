-- The node at a place in the order of a table, by its NodeId.
use Rattle.std.proofs.Common.{◌≡◌, ℕ, zero, suc, Bool, true, false, true≢false, cond, List, [], ◌∷◌, Option, None}
use Rattle.std.proofs.Common.{Some, Result, Ok, Err, MatchResult, OnErr, slice_get, refl, sym, ◌∙◌, ap, subst}
use Rattle.std.specs.List.{AllByRecursion, IsDistinct}
use Rattle.std.specs.Map.{keys_of, values_of, set_value}
use Rattle.indexmap.specs.Layout.{set_value_at}
use Rattle.ua_builtin.specs.declared.node_id.NodeId.{NodeId}
use Rattle.ua_nodes.specs.Set.{after_set_at, set_node, set_refusal, set_refusal_at}
use Rattle.ua_nodes.specs.Sound.{AreNodesSound}
use Rattle.ua_nodes.specs.Table.{Nodes, node_id_at, node_at, same_id}
use Rattle.ua_nodes.specs.declared.fault.SetFault.{SetFault}
use Rattle.ua_nodes.specs.declared.node.Variable.{Variable}
use Rattle.ua_nodes.specs.declared.set.Reading.{Reading}
use Rattle.ua_nodes.proofs.Sets.{kept_by, set_some, set_sound}
use Rattle.ua_nodes.proofs.Writes.{same_id_is}

-- the node at this place is this one: its NodeId names it, and it is set by its place as by its NodeId
pub record IsPlaced (nodes : Nodes) (index : ℕ) (v : Variable) : Type 0 where
  pub id : NodeId
  pub id_is : node_id_at nodes index ≡ Some id
  pub named : node_at nodes id ≡ Some v
  pub sets : (w : Variable) → set_value_at nodes index w ≡ set_value (same_id id) nodes w

some_same : {x y : Variable} → ◌≡◌ {A = Option Variable} (Some x) (Some y) → x ≡ y
some_same e = cc

tail_same : {A : Type 0} {x : A} {xs ys : List A} → xs ≡ ys → x ∷ xs ≡ x ∷ ys
tail_same {x = x} q = λ i. x ∷ q i

at_front : (node : NodeId × Variable) (nodes : Nodes) → IsPlaced (node ∷ nodes) 0 node.1
at_front node nodes =
    let own : same_id node.0 node.0 ≡ true = (same_id_is node.0 node.0).1 refl in
    record {
      id = node.0;
      id_is = refl;
      named = ap (λ (t : Bool). cond t (Some node.1) (node_at nodes node.0)) own;
      sets = λ w. sym (ap (λ (t : Bool). cond t ((node.0, w) ∷ nodes) (node ∷ set_value (same_id node.0) nodes w)) own);
    }

-- what is apart from all keys is apart from that at a place
apart_at : (k : NodeId) (nodes : Nodes) (index : ℕ) (id : NodeId) → AllByRecursion (λ (y : NodeId). same_id k y ≡ false) (keys_of nodes)
    → node_id_at nodes index ≡ Some id → same_id k id ≡ false
apart_at k [] index id all e = absurd cc
apart_at k (node ∷ nodes) zero id all e = subst (λ (y : NodeId). same_id k y ≡ false) (same e) all.0
  where
    same : {x y : NodeId} → ◌≡◌ {A = Option NodeId} (Some x) (Some y) → x ≡ y
    same p = cc
apart_at k (node ∷ nodes) (suc i) id all e = apart_at k nodes i id all.1 e

turned : (a b : NodeId) → same_id a b ≡ false → same_id b a ≡ false
turned a b e = by (same_id b a) refl
  where
    by : (t : Bool) → same_id b a ≡ t → t ≡ false
    by false p = refl
    by true p = absurd (true≢false (sym ((same_id_is a b).1 (sym ((same_id_is b a).0 p))) ∙ e))

behind : (node : NodeId × Variable) (nodes : Nodes) (i : ℕ) (v : Variable) → AllByRecursion (λ (y : NodeId). same_id node.0 y ≡ false) (keys_of nodes)
    → IsPlaced nodes i v → IsPlaced (node ∷ nodes) (suc i) v
behind node nodes i v all p =
    let apart : same_id p.id node.0 ≡ false = turned node.0 p.id (apart_at node.0 nodes i p.id all p.id_is) in
    record {
      id = p.id;
      id_is = p.id_is;
      named = ap (λ (t : Bool). cond t (Some node.1) (node_at nodes p.id)) apart ∙ p.named;
      sets = λ w. tail_same (p.sets w) ∙ sym (ap (λ (t : Bool). cond t ((node.0, w) ∷ nodes) (node ∷ set_value (same_id p.id) nodes w)) apart);
    }

-- in a table, the node at a place is placed so
pub placed : (nodes : Nodes) (index : ℕ) (v : Variable) → IsDistinct same_id (keys_of nodes) → slice_get (values_of nodes) index ≡ Some v
    → IsPlaced nodes index v
unfolding IsDistinct
placed [] index v d e = absurd cc
placed (node ∷ nodes) zero v d e = subst (IsPlaced (node ∷ nodes) 0) (some_same e) (at_front node nodes)
placed (node ∷ nodes) (suc i) v d e = behind node nodes i v d.0 (placed nodes i v d.1 e)

-- past the end there is no NodeId
pub none_at : (nodes : Nodes) (index : ℕ) → slice_get (values_of nodes) index ≡ None → node_id_at nodes index ≡ None
none_at [] index e = refl
none_at (node ∷ nodes) zero e = absurd cc
none_at (node ∷ nodes) (suc i) e = none_at nodes i e

-- what setting the node at a place leaves
pub set_placed : (nodes : Nodes) (index : ℕ) (v : Variable) (r : Reading) → IsPlaced nodes index v
    → set_value_at nodes index (set_node v r) ≡ after_set_at (node_id_at nodes index) r nodes
set_placed nodes index v r p =
    p.sets (set_node v r) ∙ sym (set_some p.id r nodes v p.named) ∙ sym (ap (λ (o : Option NodeId). after_set_at o r nodes) p.id_is)

-- why it is refused
pub refusal_placed : (nodes : Nodes) (index : ℕ) (v : Variable) (r : Reading) → IsPlaced nodes index v
    → set_refusal_at (node_id_at nodes index) r nodes ≡ set_refusal (Some v) r
refusal_placed nodes index v r p = ap (λ (o : Option NodeId). set_refusal_at o r nodes) p.id_is ∙ ap (λ (o : Option Variable). set_refusal o r) p.named

-- a sound table stays sound
pub set_at_sound : (o : Option NodeId) (r : Reading) (nodes : Nodes) → AreNodesSound nodes → AreNodesSound (after_set_at o r nodes)
set_at_sound None r nodes s = s
set_at_sound (Some id) r nodes s = set_sound id r nodes s

-- what is refused changes nothing
pub kept_at_place : {A : Type 0} (o : Option NodeId) (r : Reading) (nodes new : Nodes) (result : Result A SetFault) → new ≡ after_set_at o r nodes
    → MatchResult result (λ _. set_refusal_at o r nodes ≡ None) (λ fault. set_refusal_at o r nodes ≡ Some fault) → OnErr result (new ≡ nodes)
kept_at_place None r nodes new (Ok x) e a = tt
kept_at_place None r nodes new (Err fault) e a = e
kept_at_place (Some id) r nodes new (Ok x) e a = tt
kept_at_place (Some id) r nodes new (Err fault) e a = e ∙ kept_by id r nodes fault a
