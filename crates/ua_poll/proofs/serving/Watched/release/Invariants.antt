use Rattle.std.proofs.Common.{◌≡◌, ◌≤◌, List}
use Rattle.ua_concurrent.specs.Standing.{StandTogether}
use Rattle.ua_poll.specs.Rounds.{Tells, seen_of}
use Rattle.ua_server.specs.Sharing.{SharedEvent}
use Rattle.ua_server.specs.State.{State}
use Rattle.ua_poll.proofs.serving.Watched.release.Given as goal

abbrev pub invariant-loop-place : goal.invariant-loop-place
invariant-loop-place g l = record {
  stand : (es : List SharedEvent) (first now : State) → StandTogether seen_of es first now l.fn.connections.opened l.fn.connections.places.items
      → StandTogether seen_of es first now l.connections.opened l.connections.places.items;
  told : Tells g.E.Endings.notes g.E.Application.acts l.fn.self.over l.self.over l.fn.endings l.endings;
  within : l.self.over ≤ l.self.total;
  total : l.self.total ≡ l.fn.self.total;
}
