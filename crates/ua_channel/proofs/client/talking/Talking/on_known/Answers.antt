use Rattle.std.proofs.Common.{Bool, not, subst, sym}
use Rattle.ua_channel.specs.inside.ClientParts.{Judged, IsDeliveredWith, IsFirstOnce, refused_reasons, unasked_reasons}
use Rattle.ua_channel.specs.declared.client.talking.Talking.{Talking}
use Rattle.ua_channel.proofs.ClientChunks.{known_judged, stops_among}
use Rattle.ua_channel.proofs.client.talking.Talking.on_known.Goals as goal

pub returns-in-Ok : goal.returns-in-Ok
returns-in-Ok c = λ cs s once.
    known_judged c.args.self.now c.accept.new.self c.on_delivered.new.self cs c.args.chunk c.in-Ok.delivered (c.in-Ok.ensures cs s).1 c.on_delivered.result
    (c.in-Ok.ensures cs s).0
    (subst (λ (b : Bool). Judged (unasked_reasons c.accept.new.self c.args.chunk.request)
    (IsDeliveredWith c.accept.new.self c.args.chunk.request c.args.chunk.token (not b) c.in-Ok.delivered c.on_delivered.new.self) c.on_delivered.result)
    c.is_more.ensures
    (c.on_delivered.ensures (subst (λ (t : Talking). IsFirstOnce t.pending.items) (sym (c.in-Ok.ensures cs s).1.new_is) once)))

pub returns-in-Err : goal.returns-in-Err
returns-in-Err c = λ cs s once.
    stops_among (refused_reasons c.args.self.now cs c.args.chunk) (unasked_reasons c.args.self.now c.args.chunk.request) c.in-Err.fault
    (c.in-Err.ensures cs s)
