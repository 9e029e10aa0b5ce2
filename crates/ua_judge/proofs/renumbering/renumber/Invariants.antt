use Rattle.std.proofs.Common.{length}
use Rattle.ua_judge.specs.Renumbered.{renumbered}
use Rattle.ua_judge.proofs.FramesRead.{ReadTo}
use Rattle.ua_judge.proofs.renumbering.renumber.Given as goal

abbrev pub invariant-loop-frame : goal.invariant-loop-frame
invariant-loop-frame l = ReadTo (renumbered l.field l.names) l.octets l.rest l.out.items

abbrev pub decreases-loop-frame : goal.decreases-loop-frame
decreases-loop-frame l = length l.rest
