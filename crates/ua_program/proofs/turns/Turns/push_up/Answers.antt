use Rattle.std.proofs.Common.{rules}
use Rattle.ua_program.proofs.Recordings.{recorded_up}
use Rattle.ua_program.proofs.turns.Turns.push_up.Goals as goal

pub returns : goal.returns
returns c = λ before r. recorded_up before _ _ _ _ _ _ r c.in_ok-extend_from_slice.ensures.items (search rules)
