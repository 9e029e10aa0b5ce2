use Rattle.std.proofs.Common.{◌++◌, ◌∙◌, List, ℕ, ap, string_bytes}
use Rattle.ua_serving.proofs.Storing.{line_added}
use Rattle.ua_serving.proofs.stored.push_line.Goals as goal

pub returns : goal.returns
returns c =
    let node = c.deref.ensures ∙ c.in_ok-node.ensures.text in
    let second = c.in_ok-push_str-2.ensures.bytes ∙ ap (λ (t : List ℕ). string_bytes c.push_str.new.self ++ t) node in
    line_added c.push_str-3.result c.args.plain c.args.item.now _ _ _ _ _ c.in_ok-push_str.ensures.bytes second c.in_ok-push_value.ensures
    c.push_str-3.ensures.bytes
