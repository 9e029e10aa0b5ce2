use Rattle.std.proofs.Common.{◌≡◌, take}
use Rattle.ua_client.specs.Sent.{asked_len}
use Rattle.ua_client.proofs.Carrying.{Written}
use Rattle.ua_client.proofs.sending.write_calls.Given as goal

abbrev pub invariant-loop-call : goal.invariant-loop-call
invariant-loop-call g l = record {
  at : l.at ≡ asked_len (take l.call-index l.calls);
  written : Written l.octets l.at (g.L.Line.traffic l.fn.line) (g.L.Line.traffic l.line);
  same : g.L.Line.failures l.line ≡ g.L.Line.failures l.fn.line;
}
