use Rattle.std.proofs.Common.{append_assoc}
use Rattle.ua_pair.proofs.line.push_ended.Goals as goal

pub returns : goal.returns
returns c = simp (c.in_ok-push_number.ensures, append_assoc) at c.push_newline.ensures
