use Rattle.std.proofs.Common.{append_assoc}
use Rattle.ua_pair.specs.Lines.{chunk_line}
use Rattle.ua_pair.proofs.line.push_chunk_line.Goals as goal

pub returns : goal.returns
unfolding chunk_line
returns c =
    simp append_assoc (simp (
      c.push_str.ensures.bytes,
      c.gather_number-4.ensures.bytes,
      c.gather_number-3.ensures.bytes,
      c.gather_number-2.ensures.bytes,
      c.gather_number.ensures.bytes,
      c.chunk_start-text.ensures.bytes,
      append_assoc,
    ) at c.push_gathered.ensures)
