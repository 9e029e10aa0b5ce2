use Rattle.std.proofs.Common.{◌≡◌, MatchResult, None, Some, Option, sym, ap, ◌∙◌, subst}
use Rattle.indexmap.specs.Layout.{set_value_at}
use Rattle.ua_builtin.specs.declared.node_id.NodeId.{NodeId}
use Rattle.ua_nodes.specs.Set.{after_set_at, set_refusal, set_refusal_at}
use Rattle.ua_nodes.specs.Sound.{AreNodesSound}
use Rattle.ua_nodes.specs.Table.{Nodes, node_id_at}
use Rattle.ua_nodes.specs.declared.fault.SetFault.{SetFault}
use Rattle.ua_nodes.specs.declared.node.Variable.{Variable}
use Rattle.ua_nodes.proofs.Placed.{placed, none_at, set_placed, refusal_placed, set_at_sound, kept_at_place}
use Rattle.ua_nodes.proofs.table.NodeTable.set_at.Goals as goal
use Rattle.ua_nodes.proofs.table.NodeTable.set_at.Goals.{in-Some, in-None}

pub returns-clause-nodes : goal.returns-clause-nodes
returns-clause-nodes c =
    let index = c.args.index in
    let r = c.args.reading in
    let nodes = c.self.inside.nodes.entries in
    elim c.match-get_index_mut.branch [
      | in-Some w ↦ rw w.self-inside-is (
          ap (λ (x : Variable). set_value_at nodes index x) w.set.ensures.node
          ∙ set_placed nodes index w.in-Some.variable.now r (placed nodes index w.in-Some.variable.now w.in-Some.ensures.unique (sym w.in-Some.ensures.value))
          ∙ ap (λ (n : Nodes). after_set_at (node_id_at n index) r n) c.self.view_is)
      | in-None w ↦ rw w.self-inside-is (
          sym (ap (λ (o : Option NodeId). after_set_at o r nodes) (none_at nodes index (sym w.in-None.ensures.value)))
          ∙ ap (λ (n : Nodes). after_set_at (node_id_at n index) r n) c.self.view_is)
    ]

pub returns-clause-answer : goal.returns-clause-answer
returns-clause-answer c =
    let index = c.args.index in
    let r = c.args.reading in
    let nodes = c.self.inside.nodes.entries in
    let refusal : Nodes → Option SetFault = λ (n : Nodes). set_refusal_at (node_id_at n index) r n in
    elim c.match-get_index_mut.branch [
      | in-Some w ↦
          let v = w.in-Some.variable.now in
          let e : set_refusal (Some v) r ≡ refusal c.args.self.now =
          sym (refusal_placed nodes index v r (placed nodes index v w.in-Some.ensures.unique (sym w.in-Some.ensures.value))) ∙ ap refusal c.self.view_is in
          rw w.result-is (subst (λ (o : Option SetFault). MatchResult w.set.result (λ _. o ≡ None) (λ fault. o ≡ Some fault)) e w.set.ensures.answer)
      | in-None w ↦ rw w.result-is (sym (ap refusal c.self.view_is)
          ∙ ap (λ (o : Option NodeId). set_refusal_at o r nodes) (none_at nodes index (sym w.in-None.ensures.value)))
    ]

pub returns-clause-sound : goal.returns-clause-sound
returns-clause-sound c = λ before.
    subst AreNodesSound (sym (returns-clause-nodes c)) (set_at_sound (node_id_at c.args.self.now c.args.index) c.args.reading c.args.self.now before)

pub returns-clause-kept : goal.returns-clause-kept
returns-clause-kept c =
    kept_at_place (node_id_at c.args.self.now c.args.index) c.args.reading c.args.self.now _ c.match-get_index_mut.result (returns-clause-nodes c)
    (returns-clause-answer c)
