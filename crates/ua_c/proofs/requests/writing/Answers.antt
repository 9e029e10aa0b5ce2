use Rattle.std.proofs.Common.{inr}
use Rattle.ua_c.proofs.requests.writing.Goals as goal

-- a type and a text that denote no value
pub returns-in-Err : goal.returns-in-Err
returns-in-Err c = inr (inr c.in-Err.ensures.fault)
