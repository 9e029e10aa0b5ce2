use Rattle.std.proofs.Common.{length}
use Rattle.std.specs.Prelude.{option_to_list}
use Rattle.ua_judge.specs.Openings.{opened_in_frame}
use Rattle.ua_judge.proofs.FramesRead.{ReadTo}
use Rattle.ua_judge.proofs.openings.openings_in.Given as goal

abbrev pub invariant-loop-frame : goal.invariant-loop-frame
invariant-loop-frame l = ReadTo (λ end frame. option_to_list (opened_in_frame frame)) l.octets l.rest l.found.items

abbrev pub decreases-loop-frame : goal.decreases-loop-frame
decreases-loop-frame l = length l.rest
