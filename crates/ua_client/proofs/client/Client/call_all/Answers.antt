use Rattle.std.proofs.Common.{rules, ◌≡◌, [], refl}
use Rattle.ua_client.proofs.Ones.{all-answered, all-broken}
use Rattle.ua_client.proofs.client.Client.call_all.Goals as goal

pub returns-in-Ok-clause-calls : goal.returns-in-Ok-clause-calls
returns-in-Ok-clause-calls g c = λ ready.
    let none : c.no_replies-replies.result.items ≡ [] = search rules in
    all-answered (λ replies. replies.items) c.args.requests.now c.args.self.now.connection c.call_into.new.self.connection (g.L.Line.traffic c.args.line.now)
    (g.L.Line.traffic c.call_into.new.line) tt c.call_into.new.replies
    c.no_replies-replies.result.items c.call_into.new.replies.items none refl (c.in-Ok.ensures.calls ready)

pub returns-in-Err-clause-calls : goal.returns-in-Err-clause-calls
returns-in-Err-clause-calls g c = λ ready.
    all-broken (λ replies. replies.items) c.args.requests.now c.args.self.now.connection c.call_into.new.self.connection (g.L.Line.traffic c.args.line.now)
    (g.L.Line.traffic c.call_into.new.line) c.in-Err.calls
    c.no_replies-replies.result.items c.call_into.new.replies.items (c.in-Err.ensures.calls ready)
