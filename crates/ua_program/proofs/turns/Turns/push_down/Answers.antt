use Rattle.ua_program.proofs.Recordings.{recorded_down}
use Rattle.ua_program.proofs.turns.Turns.push_down.Goals as goal

pub returns : goal.returns
returns c = λ before r. recorded_down before _ _ _ _ _ r c.in_ok-extend_from_slice.ensures.items
