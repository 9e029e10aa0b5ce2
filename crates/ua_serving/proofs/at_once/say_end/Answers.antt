use Rattle.std.proofs.Common.{inl, inr, refl, rules}
use Rattle.ua_serving.proofs.Ends.{line_ended}
use Rattle.ua_serving.specs.Served.{no_memory_text}
use Rattle.ua_serving.proofs.at_once.say_end.Goals as goal

pub returns-in-Ok : goal.returns-in-Ok
returns-in-Ok g c =
    let said = c.in-Ok.ensures in
    line_ended _ _ _ said.text _ _ _ _ _ (inl said.text_is) (search rules) c.write_text.ensures c.unwritten.ensures

pub returns-in-Err : goal.returns-in-Err
returns-in-Err g c = line_ended _ _ _ no_memory_text _ _ _ _ _ (inr (search rules, refl)) refl c.write_no_memory.ensures c.unwritten-in-Err.ensures
