use Rattle.std.proofs.Common.{◌<◌, ◌∙◌, ap, subst}
use Rattle.ua_chunk.specs.Cutting.{most_octets}
use Rattle.ua_chunk.specs.declared.lane.Lane.{Lane}
use Rattle.ua_channel.proofs.ReplyLimits.{lane_there}
use Rattle.ua_channel.proofs.server.ServerChannel.most_octets.Goals as goal

pub returns-in-Some-clause-most : goal.returns-in-Some-clause-most
returns-in-Some-clause-most c = λ octets frames rest s is_open lane goes.
    let same = lane_there c.args.self.now octets frames rest c.in-Some.lane lane c.in-Some.ensures.lane s goes in (
      subst (λ (l : Lane). 0 < l.room) same c.in-Some.ensures.room,
      c.most_octets.ensures.most ∙ ap most_octets same,
    )
