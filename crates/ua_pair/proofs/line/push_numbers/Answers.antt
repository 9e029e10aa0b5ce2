use Rattle.std.proofs.Common.{append_assoc}
use Rattle.ua_pair.specs.Lines.{numbers_text}
use Rattle.ua_pair.proofs.line.push_numbers.Goals as goal

pub returns : goal.returns
unfolding numbers_text
returns c =
    simp append_assoc (simp (
      c.in_ok-push_number-4.ensures,
      c.in_ok-push_number-3.ensures,
      c.in_ok-push_number-2.ensures,
      c.in_ok-push_number.ensures,
      append_assoc,
    ) at c.push_number-5.ensures)
