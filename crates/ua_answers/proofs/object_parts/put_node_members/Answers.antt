use Rattle.std.proofs.Common.{ℕ, List, [], ◌∷◌, ◌++◌, ap, append-nil, codes, subst, sym}
use Rattle.json.specs.Token.{Token}
use Rattle.json.specs.Token as token
use Rattle.json.specs.Tree.{json_tokens}
use Rattle.ua_answers.specs.ObjectParts.{count_json, identifier_json, identifier_letter}
use Rattle.ua_answers.proofs.Tokens.{Put, puts_as, then_last}
use Rattle.ua_answers.proofs.object_parts.put_node_members.Goals as goal

pub returns : goal.returns
returns c =
    let node = c.args.node.now in
    let r = c.put_id.result in
    let ns = token.key (codes "ns") ∷ json_tokens (count_json node.namespace) in
    let letter = token.key (codes "id_type") ∷ token.string (identifier_letter node.identifier) ∷ [] in
    let id = json_tokens (identifier_json node.identifier) in
    let last = puts_as r c.put_text.new.line c.put_id.new.line (token.key (codes "id") ∷ id) (token.key (codes "id") ∷ (id ++ []))
    (ap (λ (t : List Token). token.key (codes "id") ∷ t) (sym (append-nil id))) c.put_id.ensures in
    let first = subst (λ (n : ℕ). Put c.args.line.now c.put_count_as.new.line (token.key (codes "ns") ∷ json_tokens (count_json n))) c.from.ensures
    c.in_ok-put_count_as.ensures in
    let second = subst (λ (l : List ℕ). Put c.put_count_as.new.line c.put_text.new.line (token.key (codes "id_type") ∷ token.string l ∷ []))
    c.identifier_letter.ensures c.in_ok-put_text.ensures in
    then_last r c.args.line.now c.put_count_as.new.line c.put_id.new.line ns (letter ++ token.key (codes "id") ∷ (id ++ [])) first
    (then_last r c.put_count_as.new.line c.put_text.new.line c.put_id.new.line letter (token.key (codes "id") ∷ (id ++ [])) second last)
