use Rattle.std.proofs.Common.{Ok}
use Rattle.ua_session.proofs.session.ask_by_policy.Goals as goal

pub returns-in-Ok : goal.returns-in-Ok
returns-in-Ok g c = record {
  found = Ok c.in-Ok.id;
  behind = c.find_policy.new.moments;
  client = c.find_policy.new.client;
  once_found = record { traffic = g.L.Line.traffic c.find_policy.new.line; failures = g.L.Line.failures c.find_policy.new.line };
  finds = c.in-Ok.ensures;
  further = c.ask_in_session.ensures;
}
