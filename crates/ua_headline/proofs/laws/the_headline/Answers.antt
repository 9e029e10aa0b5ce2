use Rattle.std.proofs.Common.{arith}
use Rattle.ua_server.specs.Served.{channel_in}
use Rattle.ua_headline.proofs.Talking.{first_left, first_told, first_whole, heard_first, heard_just, not_closed, not_failed, not_refused, told_first}
use Rattle.ua_headline.proofs.laws.the_headline.Goals as goal

pub returns-clause-told : goal.returns-clause-told
returns-clause-told c = λ e turns took told t g. told_first c.ends_connect.ensures c.rounds_reach_both_ends.ensures e turns (channel_in c.args.server.now) took
    t told g

pub returns-clause-whole : goal.returns-clause-whole
returns-clause-whole c = λ e turns first took told t g f. (
  λ p. first_told c.ends_connect.ensures c.rounds_reach_both_ends.ensures e turns (channel_in c.args.server.now) took t first f told g p,
  λ p. first_whole c.ends_connect.ensures c.rounds_reach_both_ends.ensures e turns (channel_in c.args.server.now) took t first f told g p,
)

pub returns-clause-state : goal.returns-clause-state
returns-clause-state c = λ e turns first took told now t s f is. first_left c.ends_connect.ensures c.rounds_reach_both_ends.ensures e turns
    (channel_in c.args.server.now) took t first f told now s is

pub returns-clause-not_refused : goal.returns-clause-not_refused
returns-clause-not_refused c = λ e turns took told code t r. not_refused c.ends_connect.ensures c.rounds_reach_both_ends.ensures e turns
    (channel_in c.args.server.now) took t told code r

pub returns-clause-not_closed : goal.returns-clause-not_closed
returns-clause-not_closed c = λ e turns took told t r. not_closed c.ends_connect.ensures c.rounds_reach_both_ends.ensures e turns (channel_in c.args.server.now)
    took t told r

pub returns-clause-answered : goal.returns-clause-answered
returns-clause-answered c = λ e turns asks got heard k r.
    heard_first c.ends_connect.ensures c.rounds_reach_both_ends.ensures c.client_asks_earlier.ensures e turns (channel_in c.args.server.now) c.args.client.now
    asks got k heard r

pub returns-clause-no_other : goal.returns-clause-no_other
returns-clause-no_other c = λ e turns first asks got heard k r f is.
    heard_just c.ends_connect.ensures c.rounds_reach_both_ends.ensures c.client_asks_earlier.ensures e turns (channel_in c.args.server.now) c.args.client.now
    asks got k first f is heard r

pub returns-clause-not_failed : goal.returns-clause-not_failed
returns-clause-not_failed c = λ e turns asks got heard why k r.
    not_failed c.ends_connect.ensures c.rounds_reach_both_ends.ensures c.client_asks_earlier.ensures e turns (channel_in c.args.server.now) c.args.client.now
    asks got k heard why r

pub returns-clause-server_holds : goal.returns-clause-server_holds
returns-clause-server_holds c = λ octets frames rest s.
    omega (arith, c.held-held.ensures.held octets frames rest s, c.held-held.ensures.bound octets frames rest s)

pub returns-clause-client_holds : goal.returns-clause-client_holds
returns-clause-client_holds c = λ asks octets frames rest s.
    omega (arith, c.held-holds.ensures.held asks octets frames rest s, c.held-holds.ensures.bound asks octets frames rest s, s.bound_is)
