use Rattle.std.proofs.Common.{◌≡◌, ◌+◌, ◌≤◌, ◌++◌, drop, length, vec_len, vec_capacity}
use Rattle.ua_nodes.specs.Limit.{answers_within}
use Rattle.ua_nodes.proofs.table.NodeTable.judge_items.Given as goal

-- the results so far, and those of the rest in the room that is left, are those of all
abbrev pub invariant-loop-item : goal.invariant-loop-item
invariant-loop-item l =
    (l.fn.statuses.items ++ answers_within l.room l.self l.items ≡ l.statuses.items ++ answers_within l.left l.self (drop l.item-index l.items))
    × (vec_len l.statuses + length (drop l.item-index l.items) ≤ vec_capacity l.statuses)
