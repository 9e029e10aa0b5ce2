use Rattle.std.proofs.Common.{rules, ◌≡◌, []}
use Rattle.ua_client.proofs.Sessions.{one-replied, one-broken}
use Rattle.ua_client.proofs.connection.Connection.call_one.Goals as goal

pub returns-in-Ok-clause-calls : goal.returns-in-Ok-clause-calls
returns-in-Ok-clause-calls g c =
    let none : c.new-replies.result.items ≡ [] = search rules in
    one-replied c.args.request.now c.from_ref-group.result.now c.args.self.now c.call_group.new.self (g.L.Line.traffic c.args.line.now)
    (g.L.Line.traffic c.call_group.new.line) c.args.reads.now c.call_group.new.reads
    c.new-replies.result.items c.call_group.new.replies.items c.only_reply.result c.from_ref-group.ensures.value none c.only_reply.ensures c.in-Ok.ensures.calls

pub returns-in-Err-clause-calls : goal.returns-in-Err-clause-calls
returns-in-Err-clause-calls g c =
    one-broken c.args.request.now c.from_ref-group.result.now c.args.self.now c.call_group.new.self (g.L.Line.traffic c.args.line.now)
    (g.L.Line.traffic c.call_group.new.line) c.args.reads.now c.call_group.new.reads
    c.new-replies.result.items c.call_group.new.replies.items c.in-Err.calls c.from_ref-group.ensures.value c.in-Err.ensures.calls
