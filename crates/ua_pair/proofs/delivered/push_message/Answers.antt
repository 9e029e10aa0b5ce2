use Rattle.std.proofs.Common.{List, ℕ, Bool, ◌≡◌, ◌++◌, ◌∙◌, ap, append_assoc, length, string_bytes, subst}
use Rattle.std.specs.List.{concat}
use Rattle.ua_pair.specs.Lines.{message_line}
use Rattle.ua_pair.specs.Names.{message_title}
use Rattle.ua_pair.specs.Told.{IsHeaderOf}
use Rattle.ua_pair.proofs.delivered.push_message.Goals as goal

pub returns : goal.returns
returns c = λ more p.
    let options = c.args.options.now in
    let octets = concat c.args.message in
    let front = message_line c.args.request (length octets) (message_title options.names options.side octets) in
    let line : string_bytes c.push_message_head.new.lines ≡ string_bytes c.args.lines.now ++ front = c.in_ok-unsupported.ensures.line in (
      front ++ more,
      ap (λ (t : List ℕ). t ++ more) line ∙ append_assoc (string_bytes c.args.lines.now) front more,
      (p.0, p.1, ap (λ (t : List ℕ). front ++ t) p.2, p.3, subst (λ (b : Bool). IsHeaderOf options b octets p.1) c.in_ok-unsupported.ensures.unsupported p.4),
    )
