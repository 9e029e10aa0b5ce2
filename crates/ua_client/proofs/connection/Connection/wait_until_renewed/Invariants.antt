use Rattle.std.proofs.Common.{◌≡◌}
use Rattle.ua_client.specs.Hearing.{effort}
use Rattle.ua_client.specs.Renewing.{is_renewed}
use Rattle.ua_client.proofs.Openings.{Lacks}
use Rattle.ua_client.proofs.connection.Connection.wait_until_renewed.Given as goal

abbrev pub invariant-loop : goal.invariant-loop
invariant-loop g l = record {
  lacks : Lacks is_renewed l.fn.self l.self (g.L.Line.traffic l.fn.line) (g.L.Line.traffic l.line) l.fn.reads l.reads;
  same : g.L.Line.failures l.line ≡ g.L.Line.failures l.fn.line;
}

abbrev pub decreases-loop : goal.decreases-loop
decreases-loop g l = effort l.reads l.self
