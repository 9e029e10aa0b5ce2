use Rattle.std.proofs.Common.{◌≡◌, List}
use Rattle.ua_concurrent.specs.Standing.{StandTogether}
use Rattle.ua_poll.specs.Rounds.{seen_of}
use Rattle.ua_server.specs.Sharing.{SharedEvent}
use Rattle.ua_server.specs.State.{State}
use Rattle.ua_poll.proofs.serving.Watched.wait.Given as goal

abbrev pub invariant-loop-event : goal.invariant-loop-event
invariant-loop-event g l = record {
  stand : (es : List SharedEvent) (first now : State) → StandTogether seen_of es first now l.fn.connections.opened l.fn.connections.places.items
      → StandTogether seen_of es first now l.connections.opened l.connections.places.items;
  over : l.self.over ≡ l.fn.self.over;
  total : l.self.total ≡ l.fn.self.total;
}
