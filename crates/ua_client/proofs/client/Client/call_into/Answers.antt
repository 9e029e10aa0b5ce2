use Rattle.std.proofs.Common.{sym, ◌∙◌}
use Rattle.ua_client.proofs.Standing.{stands-called, stands-broken}
use Rattle.ua_client.proofs.client.Client.call_into.Goals as goal

pub invariant_of-self : goal.invariant_of-self
invariant_of-self g c = record {
  settled = λ ready. stands-called c.args.requests.now c.args.self.now.connection c.call_groups.new.self (g.L.Line.traffic c.args.line.now)
      (g.L.Line.traffic c.call_groups.new.line) c.args.replies.now.items c.call_groups.new.replies.items
      (c.args.self.now.settled ready) tt c.in-Ok.ensures.calls;
}

pub invariant_of-self-in-Err : goal.invariant_of-self-in-Err
invariant_of-self-in-Err g c = record {
  settled = λ goes. stands-broken c.args.requests.now c.args.self.now.connection c.call_groups.new.self (g.L.Line.traffic c.args.line.now)
      (g.L.Line.traffic c.call_groups.new.line) c.args.replies.now.items c.call_groups.new.replies.items
      (c.args.self.now.settled c.if-self.false) c.in-Err.calls (sym c.ends-self.ensures ∙ goes) c.in-Err.ensures.calls;
}
