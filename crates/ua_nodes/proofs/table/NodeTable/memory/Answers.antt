use Rattle.std.proofs.Common.{◌≡◌, ◌+◌, length, Some, sym, ap, ◌∙◌, arith}
use Rattle.std.specs.List.{slice_get}
use Rattle.ua_builtin.specs.declared.node_id.NodeId.{NodeId}
use Rattle.ua_nodes.specs.Table.{Nodes}
use Rattle.ua_nodes.specs.declared.node.Variable.{Variable}
use Rattle.ua_nodes.proofs.Limits.{nodes_after}
use Rattle.ua_nodes.proofs.table.NodeTable.memory.Goals as goal

pub loop-index-preserved : goal.loop-index-preserved
loop-index-preserved c =
    let nodes = c.args.self.now in
    let index = c.loop-index.index in
    let node : NodeId × Variable = (c.in-Some.field-0-0.now, c.in-Some.node.now) in
    let there : slice_get nodes index ≡ Some node = sym (c.in-Some.ensures.entry ∙ ap (λ (ns : Nodes). slice_get ns index) c.self.view_is) in
    let after = nodes_after nodes index node there in
    let size = ap (λ (ns : Nodes). length ns) c.self.view_is in (
      omega (arith, after),
      omega (arith, size),
    )
