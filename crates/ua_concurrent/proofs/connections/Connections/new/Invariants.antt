use Rattle.std.proofs.Common.{◌≡◌, None}
use Rattle.std.specs.Prelude.{replicate}
use Rattle.ua_concurrent.proofs.connections.Connections.new.Given as goal

abbrev pub invariant-places : goal.invariant-places
invariant-places g l = l.places.items ≡ replicate l.counter None
