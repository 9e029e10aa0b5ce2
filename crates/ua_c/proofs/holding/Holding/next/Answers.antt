use Rattle.std.proofs.Common.{refl}
use Rattle.ua_c.proofs.Served.{next_machine}
use Rattle.ua_c.proofs.holding.Holding.next.Goals as goal

-- the new server waits, and nothing else does
pub returns : goal.returns
returns c = next_machine c.args.self.now _ c.args.channel c.in-Server.station c.in-Server.is (record {
  station = c.next.new.self;
  machine_is = refl;
  server_is = c.next.ensures.server;
  services_is = c.next.ensures.services;
  limits_is = c.next.ensures.limits;
  silent = c.none.ensures;
})
