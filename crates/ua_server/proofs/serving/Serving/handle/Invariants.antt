use Rattle.std.proofs.Common.{◌≡◌, ◌≤◌, ◌-◌, ℕ, List, length}
use Rattle.ua_frame.specs.declared.limits.Limits.{Limits}
use Rattle.ua_server.specs.Happening.{Event, Happens, WasTold}
use Rattle.ua_server.specs.ServingParts.{AreLentStill, OwesNothing}
use Rattle.ua_server.proofs.Handling.{Handled}
use Rattle.ua_server.proofs.serving.Serving.handle.Given as goal

abbrev pub invariant-loop-taken : goal.invariant-loop-taken
invariant-loop-taken g l = record {
  within : l.taken ≤ length l.piece;
  so_far : (limits : Limits) (channel : ℕ) (first : _) (read written : List ℕ) (given : List Event)
      → OwesNothing g.A.Application.changes l.fn.self limits channel first read written given (l.fn.services, l.fn.around.application.now)
      → Handled g.A.Application.changes limits channel first (Happens g.M.Moments.gives g.W.Watch.notes) (l.fn.around.moments.now, l.fn.around.watch.now)
      (g.L.Line.traffic l.fn.line)
      l.fn.self (l.fn.services, l.fn.around.application.now) l.piece l.taken (l.around.moments.now, l.around.watch.now) (g.L.Line.traffic l.line) l.self
      (l.services, l.around.application.now) read
      written given;
  same : g.L.Line.failures l.line ≡ g.L.Line.failures l.fn.line;
  told : WasTold g.W.Watch.notes l.fn.around.watch.now l.around.watch.now;
  lent : AreLentStill l.fn.around l.around;
}

abbrev pub decreases-loop-taken : goal.decreases-loop-taken
decreases-loop-taken g l = length l.piece - l.taken
