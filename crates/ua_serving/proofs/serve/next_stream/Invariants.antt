use Rattle.std.proofs.Common.{◌≡◌, false}
use Rattle.ua_serving.proofs.serve.next_stream.Given as goal

-- nothing is told but aloud
abbrev pub invariant-loop-tries : goal.invariant-loop-tries
invariant-loop-tries g l = l.telling.aloud ≡ false → l.err ≡ l.fn.err
