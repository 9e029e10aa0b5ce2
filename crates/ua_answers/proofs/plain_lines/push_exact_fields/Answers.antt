use Rattle.std.proofs.Common.{◌≡◌, ◌∷◌, [], lit<, rules, string_bytes}
use Rattle.ua_nodes.proofs.Pieces.{pieces, pieces_once}
use Rattle.ua_answers.proofs.ExactLines.{fields_start, fields_more, fields_last}
use Rattle.ua_answers.proofs.plain_lines.push_exact_fields.Goals as goal

pub fields-init : goal.fields-init
fields-init c = (search rules, search rules, fields_start (string_bytes c.args.out.now) c.args.line.now)

pub fields-preserved : goal.fields-preserved
fields-preserved c =
    let h = pieces_once 9 c.fields.rest.now c.split_once.result (lit< tt) c.split_once.ensures.cases in
    let first : pieces 9 c.fields.rest.now ≡ c.in-Some.field.now ∷ pieces 9 c.in-Some.more.now = rw c.in-Some.is at h in (
      search rules,
      search rules,
      fields_more _ _ _ c.fields.kind.now c.fields.rest.now c.in-Some.field.now c.in-Some.more.now c.fields.invariant.2 first c.in_ok-push_field.ensures,
    )

pub returns : goal.returns
returns c =
    let h = pieces_once 9 c.fields.rest.now c.split_once.result (lit< tt) c.split_once.ensures.cases in
    let last : pieces 9 c.fields.rest.now ≡ c.fields.rest.now ∷ [] = rw c.in_default.is at h in
    fields_last c.push_exact_typed.result (string_bytes c.args.out.now) c.args.line.now _ _ c.fields.kind.now c.fields.rest.now c.fields.invariant.2 last
    c.push_exact_typed.ensures
