use Rattle.std.proofs.Common.{◌∷◌, []}
use Rattle.ua_client.specs.declared.fault.ClientFault.TheVariants.{Closed}
use Rattle.ua_client.specs.declared.reply.Reply.{Reply}
use Rattle.ua_client.proofs.Ones.{calls-one, breaks-one, fault-as, found-none}
use Rattle.ua_client.proofs.client.Client.call.Goals as goal

pub returns-in-Ok-clause-calls : goal.returns-in-Ok-clause-calls
returns-in-Ok-clause-calls g c = λ ready.
    calls-one (λ replies. replies.items) c.from_ref.result.now c.args.request.now c.args.self.now.connection c.call_all.new.self.connection
    (g.L.Line.traffic c.args.line.now) (g.L.Line.traffic c.call_all.new.line) c.in-Ok.replies c.only_reply.result
    c.from_ref.ensures.value c.only_reply.ensures (c.in-Ok.ensures.calls ready)

pub returns-in-Ok-clause-closed : goal.returns-in-Ok-clause-closed
returns-in-Ok-clause-closed g c = λ done. found-none c.in-Ok.replies Closed (c.in-Ok.ensures.closed done).0

pub returns-in-Err-clause-calls : goal.returns-in-Err-clause-calls
returns-in-Err-clause-calls g c = λ ready.
    breaks-one (λ replies. replies.items) (λ (reply : Reply). reply ∷ []) c.from_ref.result.now c.args.request.now c.args.self.now.connection
    c.call_all.new.self.connection (g.L.Line.traffic c.args.line.now) (g.L.Line.traffic c.call_all.new.line) c.in-Err.fault
    c.from_ref.ensures.value (c.in-Err.ensures.calls ready)

pub returns-in-Err-clause-closed : goal.returns-in-Err-clause-closed
returns-in-Err-clause-closed g c = λ done. let h = c.in-Err.ensures.closed done in (fault-as c.in-Err.fault Closed h.0, h.1, h.2)
