use Rattle.std.proofs.Common.{◌≡◌, ◌++◌, codes, string_bytes, append_assoc}
use Rattle.ua_pair.specs.Lines.{error_line}
use Rattle.ua_pair.proofs.line.ErrorFrameGreetingLine.push_line.Goals as goal

pub returns : goal.returns
unfolding error_line
returns c =
    let code : string_bytes c.push_str.new.self ≡ string_bytes c.push_number-2.new.lines ++ codes " code " = c.in_ok-push_str.ensures.bytes in
    let reason : string_bytes c.push_str-2.new.self ≡ string_bytes c.push_code_as.new.out ++ codes " reason " = c.in_ok-push_str-2.ensures.bytes in
    simp append_assoc
    (simp (
      c.in_ok-push_string.ensures,
      reason,
      c.in_ok-push_code_as.ensures,
      code,
      c.in_ok-push_number-2.ensures,
      c.in_ok-push_number.ensures,
      append_assoc,
    ) at c.push_newline.ensures)
