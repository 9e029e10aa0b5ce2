use Rattle.ua_program.proofs.Recordings.{recorded_none}
use Rattle.ua_program.proofs.turns.Turns.new.Goals as goal

pub returns : goal.returns
returns c = recorded_none _ _ _ c.new.ensures.items c.new-2.ensures.items c.new-3.ensures.items
