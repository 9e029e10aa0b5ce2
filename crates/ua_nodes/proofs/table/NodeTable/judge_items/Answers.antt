use Rattle.std.proofs.Common.{◌≡◌, ℕ, ◌+◌, ◌∷◌, ◌++◌, [], List, length, drop, get_or, refl, sym, ◌∙◌, ap, append-nil, arith}
use Rattle.std.proofs.lemmas.List.{drop_more, drop_all}
use Rattle.ua_builtin.specs.declared.status_code.StatusCode.{StatusCode}
use Rattle.ua_structures.specs.declared.attribute.WriteValue.{WriteValue}
use Rattle.ua_nodes.specs.Limit.{answer_within, answers_within, room_after}
use Rattle.ua_nodes.specs.Table.{node_at}
use Rattle.ua_nodes.proofs.Limits.{judged_on}
use Rattle.ua_nodes.proofs.table.NodeTable.judge_items.Goals as goal

pub loop-item-preserved : goal.loop-item-preserved
loop-item-preserved c =
    let at = c.loop-item in
    let item = c.item-item.result in
    let rest = drop (at.item-index + 1) c.args.items.now in
    let steps : drop at.item-index c.args.items.now ≡ item ∷ rest =
    drop_more c.args.items.now at.item-index item c.loop-item-test.true ∙ ap (λ (x : WriteValue). x ∷ rest) (sym c.item-item.is) in (
      at.invariant.0 ∙ ap (λ (is : List WriteValue). at.statuses.items ++ answers_within at.left c.args.self.now is) steps
          ∙ judged_on at.statuses.items c.push.new.self.items
          (answers_within (room_after at.left (node_at c.args.self.now item.node_id) item) c.args.self.now rest)
          (answers_within c.judge_item-rest.result.1 c.args.self.now rest)
          c.judge_item-rest.result.0 (answer_within at.left (node_at c.args.self.now item.node_id) item) c.in-Ok.ensures.items c.judge_item-rest.ensures.answer
          (ap (λ (n : ℕ). answers_within n c.args.self.now rest) c.judge_item-rest.ensures.rest),
      (let was = at.invariant.1 in let short = ap length steps in let len = c.in-Ok.ensures.len in let room = c.in-Ok.ensures.capacity in omega arith),
    )

pub returns : goal.returns
returns c =
    let at = c.loop-item in
    let none : drop at.item-index c.args.items.now ≡ [] = drop_all at.item-index c.args.items.now (omega arith) in
    sym (at.invariant.0 ∙ ap (λ (is : List WriteValue). at.statuses.items ++ answers_within at.left c.args.self.now is) none ∙ append-nil at.statuses.items)
