use Rattle.std.proofs.Common.{◌≡◌}
use Rattle.ua_client.specs.Hearing.{effort}
use Rattle.ua_client.specs.Opening.{is_agreed}
use Rattle.ua_client.proofs.Openings.{Lacks}
use Rattle.ua_client.proofs.connection.Connection.wait_for_opening.Given as goal

abbrev pub invariant-loop-octets : goal.invariant-loop-octets
invariant-loop-octets g l = record {
  lacks : Lacks is_agreed l.fn.self l.self (g.L.Line.traffic l.fn.line) (g.L.Line.traffic l.line) l.fn.reads l.reads;
  same : g.L.Line.failures l.line ≡ g.L.Line.failures l.fn.line;
}

abbrev pub decreases-loop-octets : goal.decreases-loop-octets
decreases-loop-octets g l = effort l.reads l.self
