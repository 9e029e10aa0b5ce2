use Rattle.std.proofs.Common.{◌≡◌, ◌++◌, codes, string_bytes, append_assoc}
use Rattle.ua_pair.specs.Lines.{hello_line}
use Rattle.ua_pair.proofs.line.HelloGreetingLine.push_line.Goals as goal

pub returns : goal.returns
unfolding hello_line
returns c =
    let url : string_bytes c.push_str.new.self ≡ string_bytes c.push_numbers.new.lines ++ codes " url " = c.in_ok-push_str.ensures.bytes in
    simp append_assoc (simp (
      c.in_ok-push_string.ensures,
      url,
      c.in_ok-push_numbers.ensures,
      c.in_ok-push_number-2.ensures,
      c.in_ok-push_number.ensures,
      append_assoc,
    ) at c.push_newline.ensures)
