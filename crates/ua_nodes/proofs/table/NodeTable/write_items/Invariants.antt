use Rattle.std.proofs.Common.{◌≡◌, ◌+◌, ◌≤◌, ◌++◌, length, vec_len, vec_capacity}
use Rattle.std.specs.Vec.Iter.{into_iter_items, into_iter_len}
use Rattle.ua_nodes.specs.Write.{after_write, write_answers}
use Rattle.ua_nodes.proofs.table.NodeTable.write_items.Given as goal

-- the rest of the items leads to what all of them lead to, and there is room for its answers
abbrev pub invariant-loop-item : goal.invariant-loop-item
invariant-loop-item l = (after_write l.fn.items.items l.moment l.fn.self ≡ after_write (into_iter_items l.item-iterator) l.moment l.self)
    × (l.fn.statuses.items ++ write_answers l.fn.self l.fn.items.items ≡ l.statuses.items ++ write_answers l.self (into_iter_items l.item-iterator))
    × (vec_len l.statuses + length (into_iter_items l.item-iterator) ≤ vec_capacity l.statuses)
    × (into_iter_len l.item-iterator ≡ length (into_iter_items l.item-iterator))
