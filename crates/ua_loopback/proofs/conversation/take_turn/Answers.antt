use Rattle.std.proofs.Common.{FitsSigned, ap, refl, rules, w64}
use Rattle.std.specs.Prelude.{Err, None, Some}
use Rattle.ua_client.specs.Client.{connection_of}
use Rattle.ua_loopback.proofs.Calling.{into_fails, into_stops, renews_fails, renews_stop}
use Rattle.ua_loopback.proofs.Courses.{asked_fails, asked_not, asked_stops, renewed_before, renewed_not, stays_asked, stays_before, stays_renewed}
use Rattle.ua_loopback.proofs.Fitting.{moment_fits}
use Rattle.ua_loopback.proofs.conversation.take_turn.Goals as goal

pub returns-in-Ok-clause-stays : goal.returns-in-Ok-clause-stays
returns-in-Ok-clause-stays g c = λ b limits url opened turns first s.
    stays_asked b limits url c.args.moment opened turns (connection_of c.args.client.now) (connection_of c.call_into.new.self) first
    (g.L.Line.traffic c.args.line.now) (g.L.Line.traffic c.call_into.new.line)
    c.args.replies.now.items c.call_into.new.replies.items s c.clients_are_settled.ensures.none_pending (g.T.AsOperation.turn c.args.turn.now)
    c.in-Some.requests.now c.in-Ok.field-0
    c.in-Some.ensures.asks (c.in-Ok.ensures.calls c.requires)

pub returns-in-Ok-renew-clause-stays : goal.returns-in-Ok-renew-clause-stays
returns-in-Ok-renew-clause-stays g c = λ b limits url opened turns first s.
    let dated : FitsSigned w64 c.args.moment.ticks = search rules in
    stays_renewed b limits url c.args.moment opened turns (connection_of c.args.client.now) (connection_of c.renew.new.self) first
    (g.L.Line.traffic c.args.line.now) (g.L.Line.traffic c.renew.new.line)
    c.args.replies.now.items c.args.replies.now.items s (moment_fits c.args.moment dated) (g.T.AsOperation.turn c.args.turn.now) c.in-Ok-renew.field-0
    (c.in-None.ensures.renews refl) (c.in-Ok-renew.ensures.renews c.requires) refl

pub returns-in-Err-clause-refused : goal.returns-in-Err-clause-refused
returns-in-Err-clause-refused g c = λ reason b limits url opened turns first s.
    asked_not b limits url c.args.moment opened turns (connection_of c.args.client.now) (connection_of c.call_into.new.self) first
    (g.L.Line.traffic c.args.line.now) (g.L.Line.traffic c.call_into.new.line)
    c.args.replies.now.items c.call_into.new.replies.items s c.clients_are_settled.ensures.none_pending (g.T.AsOperation.turn c.args.turn.now)
    c.in-Some.requests.now c.in-Err.calls
    c.in-Some.ensures.asks (c.in-Err.ensures.calls c.requires) reason

pub returns-in-Err-renew-clause-refused : goal.returns-in-Err-renew-clause-refused
returns-in-Err-renew-clause-refused g c = λ reason b limits url opened turns first s.
    renewed_not b limits url c.args.moment opened turns (connection_of c.args.client.now) (connection_of c.renew.new.self) first
    (g.L.Line.traffic c.args.line.now) (g.L.Line.traffic c.renew.new.line)
    c.args.replies.now.items c.args.replies.now.items s (g.T.AsOperation.turn c.args.turn.now) c.in-Err-renew.fault (c.in-None.ensures.renews refl)
    (c.in-Err-renew.ensures.renews c.requires) reason

pub returns-in-Err-clause-fails : goal.returns-in-Err-clause-fails
returns-in-Err-clause-fails g c = λ b limits url opened turns first s.
    asked_fails b limits url c.args.moment opened turns c.args.client.now first (g.L.Line.traffic c.args.line.now) c.args.replies.now.items s c.requires
    (g.T.AsOperation.turn c.args.turn.now) (Some c.in-Some.requests.now)
    c.in-Some.ensures.asks c.in-Err.calls.fault
    (λ t k. into_fails t c.args.client.now (g.L.Line.traffic c.args.line.now) k c.in-Some.requests.now c.call_into.new.self
    (g.L.Line.traffic c.call_into.new.line) c.clients_are_settled.ensures.none_pending c.calls_are_told_behind.ensures
    c.in-Err.calls c.args.replies.now.items c.call_into.new.replies.items (c.in-Err.ensures.calls k.ready))

pub returns-in-Err-renew-clause-fails : goal.returns-in-Err-renew-clause-fails
returns-in-Err-renew-clause-fails g c = λ b limits url opened turns first s.
    let dated : FitsSigned w64 c.args.moment.ticks = search rules in
    asked_fails b limits url c.args.moment opened turns c.args.client.now first (g.L.Line.traffic c.args.line.now) c.args.replies.now.items s c.requires
    (g.T.AsOperation.turn c.args.turn.now) None
    (c.in-None.ensures.renews refl) c.in-Err-renew.fault
    (λ t k. renews_fails t c.args.client.now (g.L.Line.traffic c.args.line.now) k c.renew.new.self (g.L.Line.traffic c.renew.new.line) c.args.moment
    (moment_fits c.args.moment dated) (Err c.in-Err-renew.fault) (c.in-Err-renew.ensures.renews k.ready))

pub returns-in-Err-clause-before : goal.returns-in-Err-clause-before
returns-in-Err-clause-before g c = λ reason b limits url opened turns first s.
    stays_before b limits url c.args.moment opened turns (connection_of c.args.client.now) (connection_of c.call_into.new.self) first
    (g.L.Line.traffic c.args.line.now) (g.L.Line.traffic c.call_into.new.line)
    c.args.replies.now.items c.call_into.new.replies.items s c.clients_are_settled.ensures.none_pending (g.T.AsOperation.turn c.args.turn.now)
    c.in-Some.requests.now c.in-Err.calls
    c.in-Some.ensures.asks (c.in-Err.ensures.calls c.requires) reason

pub returns-in-Err-renew-clause-before : goal.returns-in-Err-renew-clause-before
returns-in-Err-renew-clause-before g c = λ reason b limits url opened turns first s.
    renewed_before b limits url c.args.moment opened turns (connection_of c.args.client.now) (connection_of c.renew.new.self) first
    (g.L.Line.traffic c.args.line.now) (g.L.Line.traffic c.renew.new.line)
    c.args.replies.now.items c.args.replies.now.items s (g.T.AsOperation.turn c.args.turn.now) c.in-Err-renew.fault (c.in-None.ensures.renews refl)
    (c.in-Err-renew.ensures.renews c.requires)
    (λ refused. let same = c.in-Err-renew.ensures.unchanged refused in (ap connection_of same.0, ap g.L.Line.traffic same.1)) refl reason

pub returns-in-Err-clause-stops : goal.returns-in-Err-clause-stops
returns-in-Err-clause-stops g c = λ b limits url opened turns first s.
    asked_stops b limits url c.args.moment opened turns c.args.client.now first (g.L.Line.traffic c.args.line.now) (g.L.Line.traffic c.call_into.new.line)
    c.args.replies.now.items s c.requires c.in-Err.calls.fault
    (λ t k. into_stops t c.args.client.now (g.L.Line.traffic c.args.line.now) k c.in-Some.requests.now c.call_into.new.self
    (g.L.Line.traffic c.call_into.new.line) c.clients_are_settled.ensures.none_pending c.calls_are_told_behind.ensures
    c.in-Err.calls c.args.replies.now.items c.call_into.new.replies.items (c.in-Err.ensures.calls k.ready))

pub returns-in-Err-renew-clause-stops : goal.returns-in-Err-renew-clause-stops
returns-in-Err-renew-clause-stops g c = λ b limits url opened turns first s.
    let dated : FitsSigned w64 c.args.moment.ticks = search rules in
    asked_stops b limits url c.args.moment opened turns c.args.client.now first (g.L.Line.traffic c.args.line.now) (g.L.Line.traffic c.renew.new.line)
    c.args.replies.now.items s c.requires c.in-Err-renew.fault
    (λ t k. renews_stop t c.args.client.now (g.L.Line.traffic c.args.line.now) k c.renew.new.self (g.L.Line.traffic c.renew.new.line) c.args.moment
    (moment_fits c.args.moment dated) (Err c.in-Err-renew.fault) (c.in-Err-renew.ensures.renews k.ready))
