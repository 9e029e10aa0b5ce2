use Rattle.std.proofs.Common.{◌≡◌, ◌++◌, ◌∙◌, ◌&&◌, Bool, List, ℕ, [], ap, ap₂, codes, cond, length, string_bytes}
use Rattle.std.specs.Fmt.{decimal}
use Rattle.std.specs.List.{concat}
use Rattle.ua_opening.specs.Message.{id_of_body}
use Rattle.ua_pair.specs.Lines.{message_line}
use Rattle.ua_pair.specs.Names.{encoding_text, is_unsupported, message_name}
use Rattle.ua_pair.proofs.Titles.{title_ends}
use Rattle.ua_pair.proofs.delivered.push_message_head.Goals as goal

pub returns-clause-line : goal.returns-clause-line
unfolding message_line
returns-clause-line c =
    let options = c.args.options.now in
    let octets = concat c.args.message.now in
    let old = string_bytes c.args.lines.now in
    let front : List ℕ = codes "message " ++ decimal c.args.request ++ codes " octets " ++ decimal (length octets) ++ codes " " in
    let name = message_name options.side octets in
    let more : List ℕ = cond (options.names && is_unsupported options.side octets) (encoding_text (id_of_body octets)) [] in
    let start : string_bytes c.push_message_start.new.lines ≡ old ++ (front ++ name) =
    c.in_ok-push_message_start.ensures
    ∙ ap₂ (λ (n : ℕ) (t : List ℕ). old ++ (codes "message " ++ decimal c.args.request ++ codes " octets " ++ decimal n ++ codes " " ++ t))
    c.len.ensures c.in_ok-name.ensures.name in
    let title : string_bytes c.push_unknown_encoding.new.lines ≡ string_bytes c.push_message_start.new.lines ++ more =
    c.in_ok-push_unknown_encoding.ensures
    ∙ ap (λ (b : Bool). string_bytes c.push_message_start.new.lines ++ cond (options.names && b) (encoding_text (id_of_body octets)) [])
    c.in_ok-name.ensures.unsupported in
    c.in_ok-push_newline.ensures
    ∙ ap (λ (t : List ℕ). t ++ codes "\n") (title ∙ ap (λ (t : List ℕ). t ++ more) start)
    ∙ title_ends old front name more (codes "\n")
