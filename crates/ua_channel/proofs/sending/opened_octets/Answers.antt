use Rattle.std.proofs.Common.{List, ℕ, ◌++◌, ◌∙◌, ap}
use Rattle.ua_frame.specs.Frames.{frame_octets}
use Rattle.ua_opening.specs.Message.{message}
use Rattle.ua_opening.proofs.Lengths.{open_response_length}
use Rattle.ua_opening.specs.Plain.{open_response_of}
use Rattle.ua_opening.specs.SecureChannel.{open_response}
use Rattle.ua_opening.specs.declared.secure_channel.OpenResponse.{OpenResponse}
use Rattle.ua_channel.specs.ServerSends.{opened_frame}
use Rattle.ua_channel.proofs.sending.opened_octets.Goals as goal

pub returns-in-Ok : goal.returns-in-Ok
returns-in-Ok c =
    let o = c.args.opening.now in
    c.in-Ok.ensures.ok
    ∙ (ap (λ (r : OpenResponse). c.append_opening.new.out.items ++ (message 449 open_response).canonical r) c.new-response.ensures.value
    ∙ (c.in_ok-append_opening.ensures ((message 449 open_response).canonical (open_response_of c.args.moment o.handle o.channel o.token o.lifetime))
    (open_response_length c.args.moment o.handle o.channel o.token o.lifetime)
    ∙ ap (λ (t : List ℕ). t ++ frame_octets (opened_frame o.channel c.args.sequence o.request o.handle o.token o.lifetime c.args.moment))
    c.new-out.ensures.items))
