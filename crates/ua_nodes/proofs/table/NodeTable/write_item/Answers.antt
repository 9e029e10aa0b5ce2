use Rattle.std.proofs.Common.{sym, ap, ◌∙◌}
use Rattle.std.specs.Map.{set_value}
use Rattle.ua_nodes.specs.declared.node.Variable.{Variable}
use Rattle.ua_nodes.specs.Table.{same_id}
use Rattle.ua_nodes.specs.Write.{after_item}
use Rattle.ua_nodes.proofs.Writes.{after_none, after_some}
use Rattle.ua_nodes.proofs.table.NodeTable.write_item.Goals as goal
use Rattle.ua_nodes.proofs.table.NodeTable.write_item.Goals.{in-Some, in-None}

pub returns-clause-nodes : goal.returns-clause-nodes
returns-clause-nodes c =
    let item = c.args.item.now in
    let nodes = c.self.inside.nodes.entries in
    elim c.match-get_mut.branch [
      | in-Some w ↦ rw w.self-inside-is (
          (c.get_mut.follows.holds w.write.new.self).0
          ∙ ap (λ (x : Variable). set_value (same_id item.node_id) nodes x) w.write.ensures.node
          ∙ sym (after_some item c.args.moment nodes w.in-Some.variable.now w.in-Some.ensures.unique (sym w.in-Some.ensures.value))
          ∙ ap (after_item item c.args.moment) c.self.view_is)
      | in-None w ↦ rw w.self-inside-is (
          (λ i. (c.get_mut.follows.holds-at-none i).entries)
          ∙ sym (after_none item c.args.moment nodes (sym w.in-None.ensures.value))
          ∙ ap (after_item item c.args.moment) c.self.view_is)
    ]
