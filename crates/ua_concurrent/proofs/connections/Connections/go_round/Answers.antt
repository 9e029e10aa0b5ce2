use Rattle.std.proofs.Common.{◌∙◌, arith}
use Rattle.ua_concurrent.proofs.Together.{round_next, round_whole, together_then}
use Rattle.ua_concurrent.proofs.connections.Connections.go_round.Goals as goal

pub loop-place-preserved : goal.loop-place-preserved
loop-place-preserved g c = record {
  last = c.turn.ensures.last ∙ c.loop-place.invariant.last;
  round = round_next g.S.Socket.seen c.loop-place.place c.args.self.now.places.items c.loop-place.self.places.items c.turn.new.self.places.items
      c.loop-place.invariant.round c.turn.ensures.turn;
  stand = λ es first s. together_then g.S.Socket.seen g.A.Application.acts first (c.args.services.now, c.args.application.now)
      (c.loop-place.services, c.loop-place.application) (c.turn.new.services, c.turn.new.application) c.args.self.now.opened
      c.loop-place.self.opened c.turn.new.self.opened
      c.args.self.now.places.items c.loop-place.self.places.items c.turn.new.self.places.items (λ all. c.loop-place.invariant.stand all first)
      (λ all. c.turn.ensures.stand all first) es s;
}

pub returns-clause-round : goal.returns-clause-round
returns-clause-round g c = round_whole g.S.Socket.seen c.loop-place.place c.args.self.now.places.items
    c.loop-place.self.places.items
    (omega (arith, c.loop-place-test.false, c.len-place-end.ensures)) c.loop-place.invariant.round
