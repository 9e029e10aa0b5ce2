use Rattle.std.proofs.Common.{◌≡◌, ◌++◌, codes, string_bytes, append_assoc}
use Rattle.ua_pair.specs.Lines.{refused_line}
use Rattle.ua_pair.proofs.line.push_refused_line.Goals as goal

pub returns : goal.returns
unfolding refused_line
returns c =
    let word : string_bytes c.push_str.new.self ≡ string_bytes c.args.lines.now ++ codes "refused " = c.in_ok-push_str.ensures.bytes in
    simp append_assoc (simp (c.in_ok-push_code_as.ensures, word, append_assoc) at c.push_ended.ensures)
