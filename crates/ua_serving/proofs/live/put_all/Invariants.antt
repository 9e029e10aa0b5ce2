use Rattle.std.proofs.Common.{◌≡◌, length, map}
use Rattle.std.specs.Vec.Iter.{into_iter_items, into_iter_len}
use Rattle.ua_node_files.specs.Changed.{entry_of}
use Rattle.ua_nodes.specs.Sound.{AreNodesSound}
use Rattle.ua_serving.proofs.Lives.{TakenSo}
use Rattle.ua_serving.proofs.live.put_all.Given as goal

-- some were taken, and those that are left are sound
abbrev pub invariant-loop-node : goal.invariant-loop-node
invariant-loop-node l = record {
  taken : TakenSo l.moment l.fn.nodes.items (into_iter_items l.node-iterator) l.fn.services l.services;
  len : into_iter_len l.node-iterator ≡ length (into_iter_items l.node-iterator);
  sound : AreNodesSound (map entry_of (into_iter_items l.node-iterator));
}
