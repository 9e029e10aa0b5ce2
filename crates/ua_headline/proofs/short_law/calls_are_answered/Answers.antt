use Rattle.std.proofs.Common.{◌≡◌, arith}
use Rattle.ua_frame.specs.Run.{End, Going, Stopped}
use Rattle.ua_frame.proofs.Unique.{unique}
use Rattle.ua_channel.specs.Client.{client_limits, client_rules_of}
use Rattle.ua_channel.specs.ClientTold.{Why}
use Rattle.ua_channel.specs.ServerStands.{channel_of, limits_of}
use Rattle.ua_server.specs.Served.{channel_in}
use Rattle.ua_headline.proofs.EachCall.{answered_as}
use Rattle.ua_headline.proofs.Declines.{refuses_few}
use Rattle.ua_headline.proofs.Pipelining.{own_ids}
use Rattle.ua_headline.proofs.ShortHeard.{all_short, answered_short, not_failed_short}
use Rattle.ua_headline.proofs.ShortTold.{not_wrong, not_closed_short, not_refused_short, told_short, whole_short}
use Rattle.ua_headline.proofs.short_law.calls_are_answered.Goals as goal

pub returns-clause-own_ids : goal.returns-clause-own_ids
returns-clause-own_ids c = λ e y h can d. own_ids c.ends_connect.ensures c.rounds_reach_both_ends.ensures c.client_asks_earlier.ensures e can y h d

pub returns-clause-refuses_few : goal.returns-clause-refuses_few
returns-clause-refuses_few c = λ e h body why can d is.
    refuses_few c.ends_connect.ensures c.rounds_reach_both_ends.ensures c.client_asks_earlier.ensures e can c.args.client.now h d body why is

pub returns-clause-told : goal.returns-clause-told
returns-clause-told c = λ e y h took told can d limits channel p g.
    let t =
    told_short c.ends_connect.ensures c.rounds_reach_both_ends.ensures c.client_asks_earlier.ensures e can y h d (channel_in c.args.server.now) limits channel
    took p told g in
    (t.0, t.1, t.2)

pub returns-clause-whole : goal.returns-clause-whole
returns-clause-whole c = λ e y z h first took told can d f p limits channel q g.
    whole_short c.ends_connect.ensures c.rounds_reach_both_ends.ensures c.client_asks_earlier.ensures e can y h d (channel_in c.args.server.now) limits channel
    took q z first f p told g

pub returns-clause-not_refused : goal.returns-clause-not_refused
returns-clause-not_refused c = λ e y h took told code can d limits channel p r.
    not_refused_short c.ends_connect.ensures c.rounds_reach_both_ends.ensures c.client_asks_earlier.ensures e can y h d (channel_in c.args.server.now) limits
    channel took p told code r

pub returns-clause-not_closed : goal.returns-clause-not_closed
returns-clause-not_closed c = λ e y h took told can d limits channel p r.
    not_closed_short c.ends_connect.ensures c.rounds_reach_both_ends.ensures c.client_asks_earlier.ensures e can y h d (channel_in c.args.server.now) limits
    channel took p told r

pub returns-clause-answered : goal.returns-clause-answered
returns-clause-answered c = λ e h can d.
    answered_short c.ends_connect.ensures c.rounds_reach_both_ends.ensures c.client_asks_earlier.ensures e can c.args.client.now h d

pub returns-clause-all : goal.returns-clause-all
returns-clause-all c = λ e h can d back took got.
    all_short c.ends_connect.ensures c.rounds_reach_both_ends.ensures c.client_asks_earlier.ensures e can c.args.client.now h d back took got

pub returns-clause-not_failed : goal.returns-clause-not_failed
returns-clause-not_failed c = λ e y h more told why can d back limits ended.
    not_failed_short c.ends_connect.ensures c.rounds_reach_both_ends.ensures c.client_asks_earlier.ensures e can y h d c.args.client.now more told why back
    limits ended

pub returns-clause-refuses : goal.returns-clause-refuses
returns-clause-refuses c = λ octets frames rest told code f r.
    (c.server_reads.ensures.first_wrong (limits_of (channel_in c.args.server.now)) (channel_of (channel_in c.args.server.now)) octets frames rest code f).0
    (record { frames = r.frames; rest = r.rest; run = r.run })

pub returns-clause-misses_none : goal.returns-clause-misses_none
returns-clause-misses_none c = λ octets frames rest told code f w g. not_wrong (channel_in c.args.server.now) octets told code
    ((c.server_reads.ensures.first_wrong (limits_of (channel_in c.args.server.now)) (channel_of (channel_in c.args.server.now)) octets frames rest code f).1 w)
    g

pub returns-clause-client_refuses : goal.returns-clause-client_refuses
returns-clause-client_refuses c = λ asks octets frames rest told why f r.
    (c.client_reads.ensures.first_wrong (client_limits c.args.client.now) asks octets frames rest why f).0
    (record { frames = r.frames; rest = r.rest; run = r.run })

pub returns-clause-client_misses_none : goal.returns-clause-client_misses_none
returns-clause-client_misses_none c = λ asks octets frames rest told why f w g.
    let s = (c.client_reads.ensures.first_wrong (client_limits c.args.client.now) asks octets frames rest why f).1 w in
    let ends : ◌≡◌ {A = End Why} Going (Stopped why) =
    (unique (client_rules_of c.args.client.now asks) octets g.frames s.frames g.rest s.rest Going (Stopped why) g.stands.run s.run).ends in
    cc

pub returns-clause-server_holds : goal.returns-clause-server_holds
returns-clause-server_holds c = λ octets frames rest s.
    omega (arith, c.held-held.ensures.held octets frames rest s, c.held-held.ensures.bound octets frames rest s)

pub returns-clause-client_holds : goal.returns-clause-client_holds
returns-clause-client_holds c = λ asks octets frames rest s.
    omega (arith, c.held-holds.ensures.held asks octets frames rest s, c.held-holds.ensures.bound asks octets frames rest s, s.bound_is)

pub returns-clause-requests : goal.returns-clause-requests
returns-clause-requests c = λ s time m fits. answered_as s time m fits
