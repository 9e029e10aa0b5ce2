use Rattle.std.proofs.Common.{◌∷◌, [], ◌++◌, List, ℕ, Bor, map, string_bytes, sym, ◌∙◌}
use Rattle.ua_node_files.specs.Standard.{added_line, more_uris, namespace_array}
use Rattle.ua_node_files.proofs.Adding.{added_so, lacking, then_more}
use Rattle.ua_node_files.proofs.standard.push_namespace_array.Goals as goal

pub returns : goal.returns
returns c =
    let r = c.push_uris.result in
    let uris = map (λ (uri : Bor (List ℕ)). uri.now) c.args.uris.now in
    let line = namespace_array uris in
    let old = string_bytes c.args.out.now in
    let one = string_bytes c.push_str.new.self in
    let two = string_bytes c.push_str-2.new.self in
    let new = string_bytes c.push_uris.new.out in
    let front = (namespace_array []).text in
    added_so r old (10 ∷ line.text) (added_line c.args.nodes.now line) new (lacking c.args.nodes.now line (sym c.lacks.ensures ∙ c.if-not-lacks.false))
    (then_more r old (10 ∷ []) (front ++ more_uris uris) one new c.in_ok-push_str.ensures.bytes
    (then_more r one front (more_uris uris) two new c.in_ok-push_str-2.ensures.bytes c.push_uris.ensures))
