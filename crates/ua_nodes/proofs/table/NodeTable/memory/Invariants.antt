use Rattle.std.proofs.Common.{◌≡◌, ◌-◌, ◌≤◌, min, take, length}
use Rattle.ua_nodes.specs.Limit.{nodes_memory}
use Rattle.ua_nodes.proofs.table.NodeTable.memory.Given as goal

abbrev pub invariant-loop-index : goal.invariant-loop-index
invariant-loop-index l = (l.all ≡ min (nodes_memory (take l.index l.self)) 18446744073709551615) × (l.index ≤ length l.self)

abbrev pub decreases-loop-index : goal.decreases-loop-index
decreases-loop-index l = length l.self - l.index
