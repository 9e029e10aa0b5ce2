use Rattle.ua_nodes.specs.Read.{result_octets}
use Rattle.ua_nodes.proofs.Appended.{SoFar}
use Rattle.ua_nodes.proofs.table.NodeTable.append_items.Given as goal

abbrev pub invariant-loop-item : goal.invariant-loop-item
invariant-loop-item l = SoFar l.most (result_octets l.self l.stamps l.moment) l.items l.fn.out.items l.item-index l.out.items
