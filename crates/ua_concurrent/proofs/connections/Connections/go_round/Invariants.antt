use Rattle.std.proofs.Common.{◌≡◌, List}
use Rattle.ua_server.specs.Sharing.{SharedEvent}
use Rattle.ua_server.specs.State.{State}
use Rattle.ua_concurrent.specs.Standing.{GoOn, StandTogether}
use Rattle.ua_concurrent.proofs.Together.{RoundTo}
use Rattle.ua_concurrent.proofs.connections.Connections.go_round.Given as goal

abbrev pub invariant-loop-place : goal.invariant-loop-place
invariant-loop-place g l = record {
  last : l.self.opened ≡ l.fn.self.opened;
  round : RoundTo g.S.Socket.seen l.place l.fn.self.places.items l.self.places.items;
  stand : (es : List SharedEvent) (first : State) → StandTogether g.S.Socket.seen es first l.fn.services l.fn.self.opened l.fn.self.places.items
      → GoOn g.S.Socket.seen g.A.Application.acts es first l.fn.application (l.services, l.application) l.self.opened l.self.places.items;
}
