use Rattle.std.proofs.Common.{length}
use Rattle.ua_chunk.specs.Cutting.{CutSoFar}
use Rattle.ua_chunk.proofs.cutting.append_chunks.Given as goal

abbrev pub invariant-loop-rest : goal.invariant-loop-rest
invariant-loop-rest l = CutSoFar l.lane l.request l.fn.body l.fn.sequence l.fn.out.items l.rest l.number l.out.items

abbrev pub decreases-loop-rest : goal.decreases-loop-rest
decreases-loop-rest l = length l.rest
