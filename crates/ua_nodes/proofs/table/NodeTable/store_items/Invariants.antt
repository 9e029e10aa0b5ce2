use Rattle.std.proofs.Common.{◌≡◌, length}
use Rattle.std.specs.Vec.Iter.{into_iter_items, into_iter_len}
use Rattle.ua_nodes.specs.Limit.{items_left}
use Rattle.ua_nodes.specs.Write.{after_write}
use Rattle.ua_nodes.proofs.table.NodeTable.store_items.Given as goal

-- what the rest of the items leave is what all of them leave
abbrev pub invariant-loop-item : goal.invariant-loop-item
invariant-loop-item l =
    (after_write (items_left l.fn.items.items l.codes) l.moment l.fn.self ≡ after_write (items_left (into_iter_items l.item-iterator) l.rest) l.moment l.self)
    × (into_iter_len l.item-iterator ≡ length (into_iter_items l.item-iterator))
