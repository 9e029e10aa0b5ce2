use Rattle.std.proofs.Common.{rules, ◌≡◌, MatchResult, None, Some, sym, ap, ◌∙◌, subst}
use Rattle.std.specs.Map.{set_value}
use Rattle.ua_nodes.specs.Set.{after_set, set_refusal}
use Rattle.ua_nodes.specs.Sound.{AreNodesSound}
use Rattle.ua_nodes.specs.Table.{Nodes, node_at, same_id}
use Rattle.ua_nodes.specs.declared.node.Variable.{Variable}
use Rattle.ua_nodes.proofs.Sets.{kept_at, set_some, set_none, set_sound}
use Rattle.ua_nodes.proofs.table.NodeTable.set.Goals as goal
use Rattle.ua_nodes.proofs.table.NodeTable.set.Goals.{in-Some, in-None}

pub returns-clause-nodes : goal.returns-clause-nodes
returns-clause-nodes c =
    let id = c.args.id.now in
    let r = c.args.reading in
    let nodes = c.self.inside.nodes.entries in
    elim c.match-get_mut.branch [
      | in-Some w ↦ rw w.self-inside-is (
          (c.get_mut.follows.holds w.set.new.self).0
          ∙ ap (λ (x : Variable). set_value (same_id id) nodes x) w.set.ensures.node
          ∙ sym (set_some id r nodes w.in-Some.variable.now (sym w.in-Some.ensures.value))
          ∙ ap (λ (n : Nodes). after_set id r n) c.self.view_is)
      | in-None w ↦ rw w.self-inside-is (
          (λ i. (c.get_mut.follows.holds-at-none i).entries)
          ∙ sym (set_none id r nodes (sym w.in-None.ensures.value))
          ∙ ap (λ (n : Nodes). after_set id r n) c.self.view_is)
    ]

pub returns-clause-sound : goal.returns-clause-sound
returns-clause-sound c = λ before. subst AreNodesSound (sym (returns-clause-nodes c)) (set_sound c.args.id.now c.args.reading c.args.self.now before)

pub returns-clause-kept : goal.returns-clause-kept
returns-clause-kept c =
    let id = c.args.id.now in
    let r = c.args.reading in
    let refusal = set_refusal (node_at c.args.self.now id) r in
    let answer : MatchResult c.match-get_mut.result (λ _. refusal ≡ None) (λ fault. refusal ≡ Some fault) = search rules in
    kept_at id r c.args.self.now _ c.match-get_mut.result (returns-clause-nodes c) answer
