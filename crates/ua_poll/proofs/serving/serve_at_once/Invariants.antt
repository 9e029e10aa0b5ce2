use Rattle.std.proofs.Common.{◌≡◌, ◌≤◌, []}
use Rattle.ua_poll.specs.Rounds.{Goes}
use Rattle.ua_poll.proofs.serving.serve_at_once.Given as goal

abbrev pub invariant-loop-rounds : goal.invariant-loop-rounds
invariant-loop-rounds g l = record {
  goes : Goes g.E.Endings.notes g.E.Application.acts [] l.fn.services 0 l.watched.over l.fn.endings (l.services, l.endings) l.connections.opened
      l.connections.places.items;
  within : l.watched.over ≤ l.watched.total;
  total : l.watched.total ≡ l.fn.asked.total;
}
