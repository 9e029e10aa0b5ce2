use Rattle.std.proofs.Common.{◌+◌, ◌∙◌, ℕ, Err, ap, map, refl, subst, sym, take}
use Rattle.ua_client.specs.Hearing.{failures_behind}
use Rattle.ua_client.specs.Client.{connection_of}
use Rattle.ua_loopback.specs.Accepted.{FirstRefusedUnder, acknowledged}
use Rattle.ua_loopback.specs.inside.Talking.{StaysBefore}
use Rattle.ua_loopback.proofs.Courses.{before_next, fails_next, refused_next, taken_all, taken_more, taken_none}
use Rattle.ua_loopback.proofs.conversation.take_turns.Goals as goal

pub loop-turn-init : goal.loop-turn-init
loop-turn-init g c = (
  taken_none g.T.AsOperation.turn c.args.moment c.args.turns.now c.args.client.now (g.L.Line.traffic c.args.line.now) c.args.progress.now.replies.items
      c.requires.ready,
  c.requires.none,
  refl,
)

pub loop-turn-preserved : goal.loop-turn-preserved
loop-turn-preserved g c = (
  taken_more g.T.AsOperation.turn c.args.moment c.args.turns.now c.loop-turn.turn-index c.args.client.now c.loop-turn.client c.take_turn.new.client
      (g.L.Line.traffic c.args.line.now) (g.L.Line.traffic c.loop-turn.line) (g.L.Line.traffic c.take_turn.new.line)
      c.args.progress.now.replies.items c.loop-turn.progress.replies.items c.take_turn.new.replies.items c.turn-item.result c.loop-turn.invariant.0
      c.loop-turn-test.true
      c.turn-item.is c.in-Ok.ensures.stays c.in-Ok.ensures.ready,
  ap (λ (n : ℕ). n + 1) c.loop-turn.invariant.1,
  c.in-Ok.ensures.failed ∙ c.loop-turn.invariant.2,
)

pub returns-clause-stays : goal.returns-clause-stays
returns-clause-stays g c =
    taken_all g.T.AsOperation.turn c.args.moment c.args.turns.now c.loop-turn.turn-index c.args.client.now c.loop-turn.client (g.L.Line.traffic c.args.line.now)
    (g.L.Line.traffic c.loop-turn.line) c.args.progress.now.replies.items c.loop-turn.progress.replies.items
    c.loop-turn.invariant.0 c.loop-turn-test.false

pub returns-in-Err-clause-refused : goal.returns-in-Err-clause-refused
returns-in-Err-clause-refused g c = λ reason b limits url opened first s.
    subst (λ (n : ℕ). FirstRefusedUnder (acknowledged b.limits limits url) (map g.T.AsOperation.turn c.args.turns.now) n c.in-Err.fault)
    (sym c.loop-turn.invariant.1)
    (refused_next g.T.AsOperation.turn c.args.moment c.args.turns.now c.loop-turn.turn-index c.args.client.now c.loop-turn.client
    (g.L.Line.traffic c.args.line.now) (g.L.Line.traffic c.loop-turn.line) c.args.progress.now.replies.items c.loop-turn.progress.replies.items
    c.turn-item.result
    c.in-Err.fault c.loop-turn.invariant.0 c.loop-turn-test.true c.turn-item.is (λ b' limits' url' opened' done first' s'.
    c.in-Err.ensures.refused reason b' limits' url' opened' done first' s') b limits url opened first s)

pub returns-in-Err-clause-fails : goal.returns-in-Err-clause-fails
returns-in-Err-clause-fails g c = λ b limits url opened first s.
    fails_next g.T.AsOperation.turn c.args.moment c.args.turns.now c.loop-turn.turn-index c.args.client.now c.loop-turn.client
    (g.L.Line.traffic c.args.line.now) (g.L.Line.traffic c.loop-turn.line) c.args.progress.now.replies.items c.loop-turn.progress.replies.items
    c.turn-item.result
    c.in-Err.fault c.loop-turn.invariant.0 c.loop-turn-test.true c.turn-item.is c.in-Err.ensures.fails b limits url opened first s

pub returns-in-Err-clause-before : goal.returns-in-Err-clause-before
returns-in-Err-clause-before g c = λ reason b limits url opened first s.
    subst (λ (n : ℕ). StaysBefore b limits url c.args.moment opened (map g.T.AsOperation.turn c.args.turns.now) n (connection_of c.take_turn.new.client) first
    (g.L.Line.traffic c.take_turn.new.line) c.take_turn.new.replies.items) (sym c.loop-turn.invariant.1)
    (before_next g.T.AsOperation.turn c.args.moment c.args.turns.now c.loop-turn.turn-index c.args.client.now c.loop-turn.client c.take_turn.new.client
    (g.L.Line.traffic c.args.line.now) (g.L.Line.traffic c.loop-turn.line) (g.L.Line.traffic c.take_turn.new.line)
    c.args.progress.now.replies.items c.loop-turn.progress.replies.items c.take_turn.new.replies.items c.turn-item.result c.loop-turn.invariant.0
    c.loop-turn-test.true
    c.turn-item.is
    (λ b' limits' url' opened' done first' s'. c.in-Err.ensures.before reason b' limits' url' opened' done first' s') b limits url opened first s)

pub returns-in-Err-clause-stops : goal.returns-in-Err-clause-stops
returns-in-Err-clause-stops g c = λ b limits url opened first s.
    c.in-Err.ensures.stops b limits url opened (map g.T.AsOperation.turn (take c.loop-turn.turn-index c.args.turns.now)) first
    (c.loop-turn.invariant.0.stays b limits url opened first s)

pub returns-in-Err-clause-failed : goal.returns-in-Err-clause-failed
returns-in-Err-clause-failed g c = c.in-Err.ensures.failed ∙ ap (λ (n : ℕ). failures_behind {A = Unit {0}} n (Err c.in-Err.fault)) c.loop-turn.invariant.2
