use Rattle.std.proofs.Common.{◌≡◌}
use Rattle.ua_client.specs.Hearing.{effort}
use Rattle.ua_client.proofs.Incoming.{Waiting}
use Rattle.ua_client.proofs.connection.Connection.collect.Given as goal

abbrev pub invariant-loop-moment : goal.invariant-loop-moment
invariant-loop-moment g l = record {
  waits : Waiting l.asked.requests.now l.asked.first l.fn.self l.self (g.L.Line.traffic l.fn.line) (g.L.Line.traffic l.line) l.fn.reads l.reads l.slots.slots;
  had : l.slots.had ≡ l.fn.slots.had;
  same : g.L.Line.failures l.line ≡ g.L.Line.failures l.fn.line;
}

abbrev pub decreases-loop-moment : goal.decreases-loop-moment
decreases-loop-moment g l = effort l.reads l.self
