use Rattle.std.proofs.Common.{List, ℕ, ◌≡◌, ◌++◌, ◌∙◌, append_assoc, refl, ap, ap₂, length, string_bytes}
use Rattle.ua_pair.specs.Lines.{message_line}
use Rattle.ua_pair.specs.Names.{opening_name}
use Rattle.ua_pair.proofs.delivered.push_opened.Goals as goal

pub returns : goal.returns
returns c = λ more p.
    let options = c.args.options.now in
    let chunk = c.args.chunk in
    let front = message_line chunk.request (length chunk.body) (opening_name options.side chunk.body) in
    let name : c.in_ok-name.name.now ≡ opening_name options.side chunk.body = c.in_ok-name.ensures ∙ ap (opening_name options.side) c.deref.ensures in
    let line : string_bytes c.push_message_line.new.lines ≡ string_bytes c.args.lines.now ++ front =
    c.in_ok-push_message_line.ensures ∙ ap₂ (λ (n : ℕ) (t : List ℕ). string_bytes c.args.lines.now ++ message_line chunk.request n t) c.len.ensures.value name
    in (
      front ++ more,
      ap (λ (t : List ℕ). t ++ more) line ∙ append_assoc (string_bytes c.args.lines.now) front more,
      (more, refl, p),
    )
