use Rattle.std.proofs.Common.{sym, ◌∙◌}
use Rattle.ua_client.proofs.Standing.{stands-begun, stands-unbegun}
use Rattle.ua_client.proofs.client.Client.try_begin_session.Goals as goal

pub invariant_of-self : goal.invariant_of-self
invariant_of-self g c = record {
  settled = λ ready. stands-begun c.args.policy_id c.args.moment c.args.self.now.connection c.begin_session.new.self (g.L.Line.traffic c.args.line.now)
      (g.L.Line.traffic c.begin_session.new.line) (c.args.self.now.settled ready) c.in-Ok.token c.in-Ok.ensures.begins;
}

pub invariant_of-self-in-Err : goal.invariant_of-self-in-Err
invariant_of-self-in-Err g c = record {
  settled = λ goes. stands-unbegun c.args.policy_id c.args.moment c.args.self.now.connection c.begin_session.new.self (g.L.Line.traffic c.args.line.now)
      (g.L.Line.traffic c.begin_session.new.line) (c.args.self.now.settled c.if-self.false) c.in-Err.failed
      (sym c.ends-self.ensures ∙ goes) c.in-Err.ensures.begins;
}
