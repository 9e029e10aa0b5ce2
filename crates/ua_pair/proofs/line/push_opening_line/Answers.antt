use Rattle.std.proofs.Common.{append_assoc}
use Rattle.ua_pair.specs.Lines.{opening_line}
use Rattle.ua_pair.proofs.line.push_opening_line.Goals as goal

pub returns : goal.returns
unfolding opening_line
returns c =
    simp append_assoc (simp (
      c.in_ok-push_number-5.ensures,
      c.in_ok-push_number-4.ensures,
      c.in_ok-push_number-3.ensures,
      c.in_ok-push_number-2.ensures,
      c.in_ok-push_number.ensures,
      append_assoc,
    ) at c.push_newline.ensures)
