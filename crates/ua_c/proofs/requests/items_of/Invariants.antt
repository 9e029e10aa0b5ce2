use Rattle.std.proofs.Common.{◌≡◌, take}
use Rattle.ua_c.specs.Requests.{items_of_read}
use Rattle.ua_c.proofs.requests.items_of.Given as goal

-- the items of the nodes so far
abbrev pub invariant-loop-node : goal.invariant-loop-node
invariant-loop-node l = l.items.items ≡ items_of_read l.range (take l.node-index l.nodes)
