use Rattle.ua_server.specs.Served.{channel_in}
use Rattle.ua_headline.proofs.Replied.{not_rejected, replied}
use Rattle.ua_headline.proofs.calling_laws.connected_calls_are_answered.Goals as goal

pub returns-clause-replied : goal.returns-clause-replied
returns-clause-replied g c = λ replies e deeds requests x y read written before after found h k j.
    replied c.ends_connect.ensures c.rounds_reach_both_ends.ensures e deeds (channel_in c.args.server.now) x y read written h before after k.sent k.moves
    k.same j requests (replies found) (k.answers h.done.did.last h.at)

pub returns-clause-not_rejected : goal.returns-clause-not_rejected
returns-clause-not_rejected g c = λ replies e deeds requests x y read written before after fault h k j.
    not_rejected c.ends_connect.ensures c.rounds_reach_both_ends.ensures e deeds (channel_in c.args.server.now) x y read written h before after k.sent k.moves
    k.same j c.client_asks_earlier.ensures requests fault (k.answers h.done.did.last h.at)
