use Rattle.std.proofs.Common.{◌<◌, length}
use Rattle.ua_program.proofs.Readings.{ReadSoFar}
use Rattle.ua_program.proofs.dissect.dissect_source.Given as goal

-- what was read is told
abbrev pub invariant-loop-reads : goal.invariant-loop-reads
invariant-loop-reads g l = record {
  room : 0 < length l.piece;
  so_far : ReadSoFar l.asked.hex l.asked.options l.dissection.digits.half l.dissection.dissector (g.I.Read.remaining l.fn.source) (g.I.Read.remaining l.source)
      (g.O.Write.contents l.fn.out) (g.O.Write.contents l.out);
}
