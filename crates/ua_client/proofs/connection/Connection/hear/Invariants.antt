use Rattle.std.proofs.Common.{◌≡◌}
use Rattle.ua_client.specs.Hearing.{effort}
use Rattle.ua_client.proofs.Hearings.{Quiet}
use Rattle.ua_client.proofs.connection.Connection.hear.Given as goal

abbrev pub invariant-loop-self : goal.invariant-loop-self
invariant-loop-self g l = record {
  quiet : Quiet l.fn.self l.self (g.L.Line.traffic l.fn.line) (g.L.Line.traffic l.line) l.fn.reads l.reads;
  same : g.L.Line.failures l.line ≡ g.L.Line.failures l.fn.line;
}

abbrev pub decreases-loop-self : goal.decreases-loop-self
decreases-loop-self g l = effort l.reads l.self
