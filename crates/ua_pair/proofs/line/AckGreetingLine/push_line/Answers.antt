use Rattle.std.proofs.Common.{append_assoc}
use Rattle.ua_pair.specs.Lines.{ack_line}
use Rattle.ua_pair.proofs.line.AckGreetingLine.push_line.Goals as goal

pub returns : goal.returns
unfolding ack_line
returns c =
    simp append_assoc (simp (c.in_ok-push_numbers.ensures, c.in_ok-push_number-2.ensures, c.in_ok-push_number.ensures, append_assoc) at c.push_newline.ensures)
