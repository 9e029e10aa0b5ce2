use Rattle.std.proofs.Common.{◌≡◌, false}
use Rattle.ua_serving.specs.Served.{HasServed}
use Rattle.ua_serving.proofs.serve.serve_all.Given as goal

-- the connections before this one were served, and nothing is told but aloud
abbrev pub invariant-loop-number : goal.invariant-loop-number
invariant-loop-number g l =
    HasServed l.setup.asked.requests l.setup.asked.goes_on l.setup.asked.port l.number (g.O.Write.contents l.fn.out) (g.O.Write.contents l.out)
    × (l.setup.telling.aloud ≡ false → l.err ≡ l.fn.err)
