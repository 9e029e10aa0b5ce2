use Rattle.std.proofs.Common.{◌≡◌, ◌<◌, [], length}
use Rattle.ua_frame.specs.declared.limits.Limits.{Limits}
use Rattle.ua_server.specs.Happening.{WasTold}
use Rattle.ua_server.specs.ServingParts.{AreLentStill, OwesNothing}
use Rattle.std.proofs.Common.{ℕ}
use Rattle.ua_server.proofs.Handling.{Served}
use Rattle.ua_server.proofs.serving.Serving.run.Given as goal

abbrev pub invariant-loop-reads : goal.invariant-loop-reads
invariant-loop-reads g l = record {
  room : 0 < length l.buffer;
  so_far : (limits : Limits) (channel : ℕ) (first : _) → OwesNothing g.A.Application.changes l.fn.self limits channel first [] [] []
      (l.fn.services, l.fn.around.application.now)
      → Served g.A.Application.changes limits channel first g.M.Moments.gives g.W.Watch.notes (l.fn.around.moments.now, l.fn.around.watch.now)
      (g.L.Line.traffic l.fn.line) l._reads
      (l.around.moments.now, l.around.watch.now) (g.L.Line.traffic l.line) l.self (l.services, l.around.application.now);
  same : g.L.Line.failures l.line ≡ g.L.Line.failures l.fn.line;
  told : WasTold g.W.Watch.notes l.fn.around.watch.now l.around.watch.now;
  lent : AreLentStill l.fn.around l.around;
}
