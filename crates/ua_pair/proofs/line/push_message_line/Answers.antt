use Rattle.std.proofs.Common.{append_assoc}
use Rattle.ua_pair.specs.Lines.{message_line}
use Rattle.ua_pair.proofs.line.push_message_line.Goals as goal

pub returns : goal.returns
unfolding message_line
returns c = simp append_assoc (simp (c.in_ok-push_message_start.ensures, append_assoc) at c.push_newline.ensures)
