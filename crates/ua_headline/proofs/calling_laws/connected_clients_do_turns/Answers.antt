use Rattle.std.proofs.Common.{FitsSigned, rules, w64}
use Rattle.ua_server.specs.Served.{channel_in}
use Rattle.ua_headline.proofs.Calling.{moment_fits}
use Rattle.ua_headline.proofs.Replied.{linked, renewal_not_rejected, server_told}
use Rattle.ua_headline.proofs.calling_laws.connected_clients_do_turns.Goals as goal

pub returns-clause-linked : goal.returns-clause-linked
returns-clause-linked c = λ e deeds now x read written h j. linked e deeds now x read written (channel_in c.args.server.now) h j

pub returns-clause-told : goal.returns-clause-told
returns-clause-told c = λ e deeds now x read written h j.
    server_told c.ends_connect.ensures c.rounds_reach_both_ends.ensures e deeds (channel_in c.args.server.now) now x read written h j

pub returns-clause-not_rejected : goal.returns-clause-not_rejected
returns-clause-not_rejected c = λ e deeds x y read written before after fault h k j.
    let fits : FitsSigned w64 c.args.moment.ticks = search rules in
    renewal_not_rejected c.ends_connect.ensures c.rounds_reach_both_ends.ensures e deeds (channel_in c.args.server.now) x y read written h before after k.sent
    k.moves k.same j c.client_asks_earlier.ensures c.args.moment (moment_fits c.args.moment fits) fault (k.judged h.done.did.last h.at)
    (k.answers h.done.did.last h.at)
