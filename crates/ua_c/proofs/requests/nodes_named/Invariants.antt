use Rattle.std.proofs.Common.{length}
use Rattle.ua_c.proofs.Named.{NamedUpTo}
use Rattle.ua_c.proofs.requests.nodes_named.Given as goal

-- the NodeIds that the lines so far name
abbrev pub invariant-loop-line : goal.invariant-loop-line
invariant-loop-line l = NamedUpTo l.text (length l.yielded) l.nodes.items
