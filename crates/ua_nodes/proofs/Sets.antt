-- What a reading leaves.
use Rattle.std.proofs.Common.{◌≡◌, Bool, true, false, cond, not, List, [], ◌∷◌, Option, None, Some}
use Rattle.std.proofs.Common.{Result, Ok, Err, MatchResult, OnErr, refl, sym, ◌∙◌, ap, subst}
use Rattle.std.specs.Map.{set_value}
use Rattle.std.specs.Option.{is_none}
use Rattle.ua_builtin.specs.Reasons.{first_reason}
use Rattle.ua_builtin.specs.declared.node_id.NodeId.{NodeId}
use Rattle.ua_variant.specs.Encodable.{data_value_encodable}
use Rattle.ua_variant.specs.View.{data_value_of}
use Rattle.ua_nodes.specs.Set.{after_set, value_of_reading, set_node, set_reasons, set_refusal, with_reading}
use Rattle.ua_nodes.specs.Sound.{AreNodesSound, IsSoundNode}
use Rattle.ua_nodes.specs.Table.{Nodes, node_at, same_id}
use Rattle.ua_nodes.specs.Write.{holds_type, stored}
use Rattle.ua_nodes.specs.declared.fault.SetFault.{SetFault}
use Rattle.ua_nodes.specs.declared.fault.SetFault.TheVariants.{Mismatch, NotWritable}
use Rattle.ua_nodes.specs.declared.node.Variable.{Variable}
use Rattle.ua_nodes.specs.declared.set.Reading.{Reading}

-- by the node that the NodeId names
pub set_some : (id : NodeId) (r : Reading) (nodes : Nodes) (v : Variable) → node_at nodes id ≡ Some v
    → after_set id r nodes ≡ set_value (same_id id) nodes (set_node v r)
unfolding after_set
set_some id r nodes v e = ap (λ (o : Option Variable). with_reading o id r nodes) e

pub set_none : (id : NodeId) (r : Reading) (nodes : Nodes) → node_at nodes id ≡ None → after_set id r nodes ≡ nodes
unfolding after_set
set_none id r nodes e = ap (λ (o : Option Variable). with_reading o id r nodes) e

-- ---- a reading that is refused changes nothing

head_same : {A : Type 0} {x : A} {xs ys : List A} → xs ≡ ys → x ∷ xs ≡ x ∷ ys
head_same {x = x} q = λ i. x ∷ q i

some_same : {x y : Variable} → ◌≡◌ {A = Option Variable} (Some x) (Some y) → x ≡ y
some_same e = cc

same_value : (id : NodeId) (nodes : Nodes) (v : Variable) → node_at nodes id ≡ Some v → set_value (same_id id) nodes v ≡ nodes
same_value id [] v h = refl
same_value id (node ∷ nodes) v h = by (same_id id node.0) h (same_value id nodes v)
  where
    by : (t : Bool) → cond t (Some node.1) (node_at nodes id) ≡ Some v → (node_at nodes id ≡ Some v → set_value (same_id id) nodes v ≡ nodes)
        → cond t ((node.0, v) ∷ nodes) (node ∷ set_value (same_id id) nodes v) ≡ node ∷ nodes
    by true k more = ap (λ (x : Variable). (node.0, x) ∷ nodes) (sym (some_same k))
    by false k more = head_same (more k)

pub kept_by : (id : NodeId) (r : Reading) (nodes : Nodes) (fault : SetFault) → set_refusal (node_at nodes id) r ≡ Some fault → after_set id r nodes ≡ nodes
unfolding after_set
kept_by id r nodes fault h = by (node_at nodes id) refl h
  where
    same : (v : Variable) (o : Option SetFault) → node_at nodes id ≡ Some v → o ≡ Some fault
        → set_value (same_id id) nodes (cond (is_none o) (stored v (value_of_reading r) r.source_time) v) ≡ nodes
    same v None e f = absurd cc
    same v (Some g) e f = same_value id nodes v e

    by : (o : Option Variable) → node_at nodes id ≡ o → set_refusal o r ≡ Some fault → with_reading o id r nodes ≡ nodes
    by None e f = refl
    by (Some v) e f = same v (first_reason (set_reasons v (value_of_reading r))) e f

-- ---- a sound table stays sound

node_sound : (id : NodeId) (v : Variable) (r : Reading) → IsSoundNode id v → IsSoundNode id (set_node v r)
node_sound id v r w = by (holds_type v.kind v.array (value_of_reading r).value) (data_value_encodable (data_value_of (value_of_reading r))) refl refl
  where
    by : (a b : Bool) → holds_type v.kind v.array (value_of_reading r).value ≡ a → data_value_encodable (data_value_of (value_of_reading r)) ≡ b
        → IsSoundNode id (cond (is_none (first_reason ((Mismatch, not a) ∷ (NotWritable, not b) ∷ []))) (stored v (value_of_reading r) r.source_time) v)
    by true true e f = record { id_fits = w.id_fits; name_fits = w.name_fits; of_type = e; value_fits = f }
    by true false e f = w
    by false b e f = w

value_sound : (id : NodeId) (nodes : Nodes) (v : Variable) (r : Reading) → node_at nodes id ≡ Some v → AreNodesSound nodes
    → AreNodesSound (set_value (same_id id) nodes (set_node v r))
value_sound id [] v r h s = tt
value_sound id (node ∷ nodes) v r h s = by (same_id id node.0) h (λ e. value_sound id nodes v r e s.1)
  where
    by : (t : Bool) → cond t (Some node.1) (node_at nodes id) ≡ Some v
        → (node_at nodes id ≡ Some v → AreNodesSound (set_value (same_id id) nodes (set_node v r)))
        → AreNodesSound (cond t ((node.0, set_node v r) ∷ nodes) (node ∷ set_value (same_id id) nodes (set_node v r)))
    by true k more = (subst (λ (x : Variable). IsSoundNode node.0 (set_node x r)) (some_same k) (node_sound node.0 node.1 r s.0), s.1)
    by false k more = (s.0, more k)

pub set_sound : (id : NodeId) (r : Reading) (nodes : Nodes) → AreNodesSound nodes → AreNodesSound (after_set id r nodes)
unfolding after_set
set_sound id r nodes s = by (node_at nodes id) refl
  where
    by : (o : Option Variable) → node_at nodes id ≡ o → AreNodesSound (with_reading o id r nodes)
    by None e = s
    by (Some v) e = value_sound id nodes v r e s

pub kept_at : {A : Type 0} (id : NodeId) (r : Reading) (nodes new : Nodes) (result : Result A SetFault) → new ≡ after_set id r nodes
    → MatchResult result (λ _. set_refusal (node_at nodes id) r ≡ None) (λ fault. set_refusal (node_at nodes id) r ≡ Some fault) → OnErr result (new ≡ nodes)
kept_at id r nodes new (Ok x) e a = tt
kept_at id r nodes new (Err fault) e a = e ∙ kept_by id r nodes fault a
