use Rattle.std.proofs.Common.{[], map, subst, sym}
use Rattle.std.specs.Prelude.{Err, List}
use Rattle.ua_client.specs.Client.{connection_of}
use Rattle.ua_client.specs.declared.reply.Reply.{Reply}
use Rattle.ua_loopback.specs.inside.Talking.{HaveMisanswers, StaysTalking}
use Rattle.ua_loopback.proofs.Calling.{closes_stop}
use Rattle.ua_loopback.proofs.Courses.{asked_stops, closes_by, talked_all}
use Rattle.ua_loopback.proofs.Faults.{close_fails, outside_fails}
use Rattle.ua_loopback.proofs.conversation.talk.Goals as goal

pub returns-in-Ok-close-clause-talked : goal.returns-in-Ok-close-clause-talked
returns-in-Ok-close-clause-talked g c = λ b able line.
    let w = c.in-Ok.ensures.went b able line in
    let t0 = g.L.Line.traffic c.args.line.now in
    let t1 = g.L.Line.traffic c.begin.new.line in
    talked_all b c.args.setup.limits c.args.setup.url c.args.setup.moment (map g.T.AsOperation.turn c.args.turns.now) (connection_of c.in-Ok.client) t0 t1
    (g.L.Line.traffic c.close.new.line) c.take_turns.new.progress.replies.items w
    (connection_of c.take_turns.new.client) (g.L.Line.traffic c.take_turns.new.line) c.in-Ok-close.field-0
    (c.in-Ok-take_turns.ensures.stays b c.args.setup.limits c.args.setup.url w.opened t0
    (subst (λ (rs : List Reply). StaysTalking b c.args.setup.limits c.args.setup.url c.args.setup.moment w.opened [] (connection_of c.in-Ok.client) t0 t1 rs)
    (sym c.requires.none) w.stays))
    (c.in-Ok-close.ensures.closes c.in-Ok-take_turns.ensures.ready)

pub returns-in-Err-clause-refused : goal.returns-in-Err-clause-refused
returns-in-Err-clause-refused g c = λ reason b able line. absurd (c.in-Err.ensures.faults reason)

pub returns-in-Err-take_turns-clause-refused : goal.returns-in-Err-take_turns-clause-refused
returns-in-Err-take_turns-clause-refused g c = λ reason b able line.
    let w = c.in-Ok.ensures.went b able line in
    let t0 = g.L.Line.traffic c.args.line.now in
    let t1 = g.L.Line.traffic c.begin.new.line in
    c.in-Err-take_turns.ensures.refused reason b c.args.setup.limits c.args.setup.url w.opened t0
    (subst (λ (rs : List Reply). StaysTalking b c.args.setup.limits c.args.setup.url c.args.setup.moment w.opened [] (connection_of c.in-Ok.client) t0 t1 rs)
    (sym c.requires.none) w.stays)

pub returns-clause-refused : goal.returns-clause-refused
returns-clause-refused g c = λ reason b able line.
    let w = c.in-Ok.ensures.went b able line in
    let t0 = g.L.Line.traffic c.args.line.now in
    let t1 = g.L.Line.traffic c.begin.new.line in
    let s =
    c.in-Ok-take_turns.ensures.stays b c.args.setup.limits c.args.setup.url w.opened t0
    (subst (λ (rs : List Reply). StaysTalking b c.args.setup.limits c.args.setup.url c.args.setup.moment w.opened [] (connection_of c.in-Ok.client) t0 t1 rs)
    (sym c.requires.none) w.stays) in
    let closes = c.in-Err-close.ensures.closes c.in-Ok-take_turns.ensures.ready in
    absurd (closes_by s.stays.site c.args.setup.moment closes.sent c.in-Err-close.fault reason (closes.answers s.stays.site s.stays.at))

pub returns-in-Err-clause-fails : goal.returns-in-Err-clause-fails
returns-in-Err-clause-fails g c = λ b able line short.
    outside_fails (HaveMisanswers b.first b.moments 1 (map g.T.AsOperation.turn c.args.turns.now)) c.in-Err.fault (c.in-Err.ensures.fails b able line short)

pub returns-in-Err-take_turns-clause-fails : goal.returns-in-Err-take_turns-clause-fails
returns-in-Err-take_turns-clause-fails g c = λ b able line short.
    let w = c.in-Ok.ensures.went b able line in
    let t0 = g.L.Line.traffic c.args.line.now in
    let t1 = g.L.Line.traffic c.begin.new.line in
    c.in-Err-take_turns.ensures.fails b c.args.setup.limits c.args.setup.url w.opened t0
    (subst (λ (rs : List Reply). StaysTalking b c.args.setup.limits c.args.setup.url c.args.setup.moment w.opened [] (connection_of c.in-Ok.client) t0 t1 rs)
    (sym c.requires.none) w.stays)

pub returns-clause-fails : goal.returns-clause-fails
returns-clause-fails g c = λ b able line short.
    let w = c.in-Ok.ensures.went b able line in
    let t0 = g.L.Line.traffic c.args.line.now in
    let t1 = g.L.Line.traffic c.begin.new.line in
    let s =
    c.in-Ok-take_turns.ensures.stays b c.args.setup.limits c.args.setup.url w.opened t0
    (subst (λ (rs : List Reply). StaysTalking b c.args.setup.limits c.args.setup.url c.args.setup.moment w.opened [] (connection_of c.in-Ok.client) t0 t1 rs)
    (sym c.requires.none) w.stays) in
    let closes = c.in-Err-close.ensures.closes c.in-Ok-take_turns.ensures.ready in
    outside_fails (HaveMisanswers b.first b.moments 1 (map g.T.AsOperation.turn c.args.turns.now)) c.in-Err-close.fault
    (close_fails (Unit {0}) s.stays.site c.args.setup.moment closes.sent c.in-Err-close.fault (closes.answers s.stays.site s.stays.at))

pub returns-in-Err-clause-before : goal.returns-in-Err-clause-before
returns-in-Err-clause-before g c = λ reason b able line. absurd (c.in-Err.ensures.faults reason)

pub returns-in-Err-take_turns-clause-before : goal.returns-in-Err-take_turns-clause-before
returns-in-Err-take_turns-clause-before g c = λ reason b able line.
    let w = c.in-Ok.ensures.went b able line in
    let t0 = g.L.Line.traffic c.args.line.now in
    let t1 = g.L.Line.traffic c.begin.new.line in
    record {
      opened = w.opened;
      connection = connection_of c.take_turns.new.client;
      stays = c.in-Err-take_turns.ensures.before reason b c.args.setup.limits c.args.setup.url w.opened t0
          (subst (λ (rs : List Reply). StaysTalking b c.args.setup.limits c.args.setup.url c.args.setup.moment w.opened [] (connection_of c.in-Ok.client) t0 t1
          rs)
          (sym c.requires.none) w.stays);
    }

pub returns-clause-before : goal.returns-clause-before
returns-clause-before g c = λ reason b able line.
    let w = c.in-Ok.ensures.went b able line in
    let t0 = g.L.Line.traffic c.args.line.now in
    let t1 = g.L.Line.traffic c.begin.new.line in
    let s =
    c.in-Ok-take_turns.ensures.stays b c.args.setup.limits c.args.setup.url w.opened t0
    (subst (λ (rs : List Reply). StaysTalking b c.args.setup.limits c.args.setup.url c.args.setup.moment w.opened [] (connection_of c.in-Ok.client) t0 t1 rs)
    (sym c.requires.none) w.stays) in
    let closes = c.in-Err-close.ensures.closes c.in-Ok-take_turns.ensures.ready in
    absurd (closes_by s.stays.site c.args.setup.moment closes.sent c.in-Err-close.fault reason (closes.answers s.stays.site s.stays.at))

pub returns-in-Err-clause-stops : goal.returns-in-Err-clause-stops
returns-in-Err-clause-stops g c = λ b able line short. c.in-Err.ensures.stops b able line short

pub returns-in-Err-take_turns-clause-stops : goal.returns-in-Err-take_turns-clause-stops
returns-in-Err-take_turns-clause-stops g c = λ b able line short.
    let w = c.in-Ok.ensures.went b able line in
    let t0 = g.L.Line.traffic c.args.line.now in
    let t1 = g.L.Line.traffic c.begin.new.line in
    c.in-Err-take_turns.ensures.stops b c.args.setup.limits c.args.setup.url w.opened t0
    (subst (λ (rs : List Reply). StaysTalking b c.args.setup.limits c.args.setup.url c.args.setup.moment w.opened [] (connection_of c.in-Ok.client) t0 t1 rs)
    (sym c.requires.none) w.stays)

pub returns-clause-stops : goal.returns-clause-stops
returns-clause-stops g c = λ b able line short.
    let w = c.in-Ok.ensures.went b able line in
    let t0 = g.L.Line.traffic c.args.line.now in
    let t1 = g.L.Line.traffic c.begin.new.line in
    let s =
    c.in-Ok-take_turns.ensures.stays b c.args.setup.limits c.args.setup.url w.opened t0
    (subst (λ (rs : List Reply). StaysTalking b c.args.setup.limits c.args.setup.url c.args.setup.moment w.opened [] (connection_of c.in-Ok.client) t0 t1 rs)
    (sym c.requires.none) w.stays) in
    asked_stops b c.args.setup.limits c.args.setup.url c.args.setup.moment w.opened (map g.T.AsOperation.turn c.args.turns.now) c.take_turns.new.client t0
    (g.L.Line.traffic c.take_turns.new.line) (g.L.Line.traffic c.close.new.line) c.take_turns.new.progress.replies.items s
    c.in-Ok-take_turns.ensures.ready c.in-Err-close.fault
    (λ t k. closes_stop t c.take_turns.new.client (g.L.Line.traffic c.take_turns.new.line) k c.args.setup.moment (g.L.Line.traffic c.close.new.line)
    (Err c.in-Err-close.fault) (c.in-Err-close.ensures.closes k.ready))
