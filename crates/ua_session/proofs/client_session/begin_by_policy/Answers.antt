use Rattle.std.proofs.Common.{Ok}
use Rattle.ua_session.proofs.InSession.{begins_by}
use Rattle.ua_session.proofs.client_session.begin_by_policy.Goals as goal

pub returns-in-Ok : goal.returns-in-Ok
returns-in-Ok g c = record {
  found = Ok c.in-Ok.id;
  behind = c.find_policy-found.new.moments;
  client = c.find_policy-found.new.client;
  once_found = record { traffic = g.L.Line.traffic c.find_policy-found.new.line; failures = g.L.Line.failures c.find_policy-found.new.line };
  finds = c.in-Ok.ensures;
  further = begins_by _ _ _ _ _ _ _ _ _ _ _ c.first_call-handle.ensures.handle c.begin_named.ensures;
}
