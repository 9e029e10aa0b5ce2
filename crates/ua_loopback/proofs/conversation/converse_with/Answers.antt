use Rattle.std.proofs.Common.{◌≡◌, ◌<◌, Fits, FitsSigned, IsTrue, List, ap, length, map, rules, subst, w32, w64, ℕ}
use Rattle.std.specs.List.{list_all}
use Rattle.ua_builtin.specs.DateTime.{date_time}
use Rattle.ua_builtin.specs.declared.date_time.DateTime.{DateTime}
use Rattle.ua_client.specs.Hearing.{most_reads}
use Rattle.ua_loopback.specs.Beginning.{beginning_of}
use Rattle.ua_loopback.specs.Kept.{Served}
use Rattle.ua_loopback.specs.Times.{time_at}
use Rattle.ua_loopback.specs.inside.Talking.{CanOpenTo}
use Rattle.ua_loopback.proofs.Clocks.{times_encodable}
use Rattle.ua_loopback.proofs.Failing.{ok_told}
use Rattle.ua_loopback.proofs.Fitting.{can_open, moment_fits}
use Rattle.ua_loopback.proofs.Outcomes.{Ran, told_accepted, told_before, told_closed, told_converses, told_ends, told_fails, told_heard}
use Rattle.ua_loopback.proofs.Outcomes.{told_left, told_refused, told_replied, told_sent, told_services, told_state}
use Rattle.ua_loopback.proofs.conversation.converse_with.Given.{Over as Given}
use Rattle.ua_loopback.proofs.conversation.converse_with.Goals as goal

able : (g : Given) (c : goal.After-outcome_at-told g)
    → CanOpenTo (beginning_of c.args.server) c.args.server.limits c.args.url c.args.server.moment
able g c =
    let dated : FitsSigned w64 c.args.server.moment.ticks = search rules in
    let channel : Fits w32 c.args.server.channel_id = search rules in
    let receive : Fits w32 c.args.server.limits.receive_buffer_size = search rules in
    let send : Fits w32 c.args.server.limits.send_buffer_size = search rules in
    let octets : Fits w32 c.args.server.limits.max_message_size = search rules in
    let chunks : Fits w32 c.args.server.limits.max_chunk_count = search rules in
    can_open c.args.server.limits c.args.server.channel_id c.args.server.services c.args.url c.args.server.moment receive send octets chunks channel dated
    (time_at c.args.server.moment c.args.server.later.items)
    (times_encodable c.args.server.moment c.args.server.later.items (moment_fits c.args.server.moment dated)
    (subst (λ (times : List DateTime). IsTrue (list_all date_time.encodable times)) c.deref.ensures.value c.times_are_encodable.ensures)) c.requires.url

-- the client that ran, and what its call and those of the line say
abbrev ran : (g : Given) → goal.After-outcome_at-told g → Ran
ran g c = record {
  begun = g.W.Began.beginning;
  limits = c.args.server.limits;
  channel = c.args.server.channel_id;
  services = c.args.server.services;
  url = c.args.url;
  moment = c.args.server.moment;
  times = time_at c.args.server.moment c.args.server.later.items;
  turns = map g.T.AsOperation.turn c.args.turns.now;
  old = c.new-line.result;
  new = c.talk-outcome.new.line;
  taken = c.talk-outcome.new.progress.taken;
  replies = c.talk-outcome.new.progress.replies.items;
  outcome = c.talk-outcome.result;
  told = c.outcome_at-told.result;
  far = c.stage-stage.result;
  up = c.into_parts-up.result.0.items;
  down = c.into_parts-up.result.1.items;
  left = c.into_parts-up.result.2;
  begun_is = c.requires.began;
  able = able g c;
  sound = c.services_are_sound.ensures;
  none = ap (λ (l : Served). l.up) c.new-line.ensures;
  nothing_read = ap (λ (l : Served). l.read) c.new-line.ensures;
  no_failure = ap (λ (l : Served). l.failures) c.new-line.ensures;
  talked = c.talk-outcome.ensures.talked;
  refused = c.talk-outcome.ensures.refused;
  before = c.talk-outcome.ensures.before;
  fails = c.talk-outcome.ensures.fails;
  stops = c.talk-outcome.ensures.stops;
  failed = c.talk-outcome.ensures.failed;
  told_is = c.outcome_at-told.ensures;
  far_is = c.stage-stage.ensures.is;
  over = c.stage-stage.ensures.over;
  up_is = c.into_parts-up.ensures.up;
  down_is = c.into_parts-up.ensures.down;
  leaves = c.into_parts-up.ensures.services;
  ends = c.into_parts-up.ensures.ends;
  few = subst (λ (o : List ℕ). length o < most_reads) c.down.ensures.said c.fewer_than_reads.ensures;
}

pub returns-clause-services : goal.returns-clause-services
returns-clause-services g c = told_services (ran g c)

pub returns-clause-ends : goal.returns-clause-ends
returns-clause-ends g c = told_ends (ran g c)

pub returns-clause-converses : goal.returns-clause-converses
returns-clause-converses g c = told_converses (ran g c)

pub returns-clause-heard : goal.returns-clause-heard
returns-clause-heard g c = told_heard (ran g c)

pub returns-clause-closed : goal.returns-clause-closed
returns-clause-closed g c = told_closed (ran g c)

pub returns-clause-left : goal.returns-clause-left
returns-clause-left g c = told_left (ran g c)

pub returns-clause-sent : goal.returns-clause-sent
returns-clause-sent g c = told_sent (ran g c)

pub returns-clause-replied : goal.returns-clause-replied
returns-clause-replied g c = told_replied (ran g c)

pub returns-clause-state : goal.returns-clause-state
returns-clause-state g c = told_state (ran g c)

pub returns-clause-accepted : goal.returns-clause-accepted
returns-clause-accepted g c = told_accepted (ran g c)

pub returns-clause-taken : goal.returns-clause-taken
returns-clause-taken g c =
    ok_told c.stage-stage.result c.talk-outcome.result c.outcome_at-told.result (c.talk-outcome.new.progress.taken ≡ length c.args.turns.now)
    c.outcome_at-told.ensures c.talk-outcome.ensures.taken

pub returns-clause-refused : goal.returns-clause-refused
returns-clause-refused g c = told_refused (ran g c)

pub returns-clause-before : goal.returns-clause-before
returns-clause-before g c = told_before (ran g c)

pub returns-clause-fails : goal.returns-clause-fails
returns-clause-fails g c = told_fails (ran g c)
