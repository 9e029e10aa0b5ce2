use Rattle.std.proofs.Common.{append_assoc}
use Rattle.ua_pair.specs.Lines.{chunk_head}
use Rattle.ua_pair.proofs.line.chunk_start.Goals as goal

pub returns-clause-bytes : goal.returns-clause-bytes
unfolding chunk_head
returns-clause-bytes c =
    simp append_assoc (simp (
      c.push_str-4.ensures.bytes,
      c.flag_letter.ensures,
      c.push_str-3.ensures.bytes,
      c.push_str-2.ensures.bytes,
      c.push_str.ensures.bytes,
      c.gather_number.ensures.bytes,
      c.new-text.ensures,
      append_assoc,
    ) at c.gather_number-2.ensures.bytes)
