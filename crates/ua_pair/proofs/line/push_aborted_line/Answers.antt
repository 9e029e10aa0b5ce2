use Rattle.std.proofs.Common.{◌≡◌, ◌++◌, codes, string_bytes, append_assoc}
use Rattle.ua_pair.specs.Lines.{aborted_line}
use Rattle.ua_pair.proofs.line.push_aborted_line.Goals as goal

pub returns : goal.returns
unfolding aborted_line
returns c =
    let word : string_bytes c.push_str.new.self ≡ string_bytes c.push_number.new.lines ++ codes " aborted " = c.in_ok-push_str.ensures.bytes in
    simp append_assoc (simp (c.in_ok-push_code_as.ensures, word, c.in_ok-push_number.ensures, append_assoc) at c.push_newline.ensures)
