use Rattle.std.proofs.Common.{sym, ◌∙◌}
use Rattle.ua_client.proofs.Standing.{stands-renewed, stands-unrenewed}
use Rattle.ua_client.proofs.client.Client.renew.Goals as goal

pub invariant_of-self : goal.invariant_of-self
invariant_of-self g c = record {
  settled = λ ready. stands-renewed c.args.moment c.args.self.now.connection c.renew.new.self (g.L.Line.traffic c.args.line.now)
      (g.L.Line.traffic c.renew.new.line) (c.args.self.now.settled ready) tt c.in-Ok.ensures.renews;
}

pub invariant_of-self-in-Err : goal.invariant_of-self-in-Err
invariant_of-self-in-Err g c = record {
  settled = λ goes. stands-unrenewed c.args.moment c.args.self.now.connection c.renew.new.self (g.L.Line.traffic c.args.line.now)
      (g.L.Line.traffic c.renew.new.line) (c.args.self.now.settled c.if-self.false) c.in-Err.fault
      (sym c.ends-self.ensures ∙ goes) c.in-Err.ensures.renews (λ refused. (c.in-Err.ensures.unchanged refused).0);
}
