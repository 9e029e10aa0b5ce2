use Rattle.std.proofs.Common.{◌≡◌, ◌∷◌, [], ◌≤◌, List, ℕ, length, None, Some, codes, lit<, arith, ap}
use Rattle.std.proofs.lemmas.Result.{err_from_is_err_and}
use Rattle.std.proofs.lemmas.Str.Pattern.{contains_char}
use Rattle.ua_nodes.proofs.Pieces.{pieces, pieces_once, pieces_contains}
use Rattle.ua_answers.proofs.Steps.{no_three, three, write_refused_id, write_refused_value}
use Rattle.ua_answers.proofs.script.parse_write.Goals as goal

pub returns-in_default : goal.returns-in_default
returns-in_default c =
    let h : pieces 9 c.args.rest.now ≡ c.args.rest.now ∷ [] = pieces_once 9 c.args.rest.now None (lit< tt) c.in_default.ensures.cases in
    no_three (pieces 9 c.args.rest.now) (λ e. let one = ap length h in omega arith)

pub returns-in_default-split_once : goal.returns-in_default-split_once
returns-in_default-split_once c =
    let h : pieces 9 c.args.rest.now ≡ c.in-Some.id.now ∷ pieces 9 c.in-Some.rest.now = pieces_once 9 c.args.rest.now (Some (c.in-Some.id, c.in-Some.rest))
    (lit< tt) c.in-Some.ensures.cases in
    let i : pieces 9 c.in-Some.rest.now ≡ c.in-Some.rest.now ∷ [] = pieces_once 9 c.in-Some.rest.now None (lit< tt) c.in_default-split_once.ensures.cases in
    no_three (pieces 9 c.args.rest.now) (λ e. let one = ap length h in let two = ap length i in omega arith)

pub returns-then-contains : goal.returns-then-contains
returns-then-contains c =
    let h : pieces 9 c.args.rest.now ≡ c.in-Some.id.now ∷ pieces 9 c.in-Some.rest.now = pieces_once 9 c.args.rest.now (Some (c.in-Some.id, c.in-Some.rest))
    (lit< tt) c.in-Some.ensures.cases in
    let i : pieces 9 c.in-Some.rest.now ≡ c.in-Some-split_once.kind.now ∷ pieces 9 c.in-Some-split_once.text.now =
    pieces_once 9 c.in-Some.rest.now (Some (c.in-Some-split_once.kind, c.in-Some-split_once.text)) (lit< tt) c.in-Some-split_once.ensures.cases in
    let text = c.in-Some-split_once.text.now in
    let more : 2 ≤ length (pieces 9 text) =
    (pieces_contains 9 text c.contains.result (contains_char 9 text c.contains.result c.contains.ensures.cases (lit< tt))).0 c.if-contains.true in
    no_three (pieces 9 c.args.rest.now) (λ e. let one = ap length h in let two = ap length i in omega arith)

pub returns-in_err-node : goal.returns-in_err-node
returns-in_err-node c =
    let h = pieces_once 9 c.args.rest.now (Some (c.in-Some.id, c.in-Some.rest)) (lit< tt) c.in-Some.ensures.cases in
    let i = pieces_once 9 c.in-Some.rest.now (Some (c.in-Some-split_once.kind, c.in-Some-split_once.text)) (lit< tt) c.in-Some-split_once.ensures.cases in
    let text = c.in-Some-split_once.text.now in
    let last = (pieces_contains 9 text c.contains.result (contains_char 9 text c.contains.result c.contains.ensures.cases (lit< tt))).1 c.if-contains.false in
    let p = err_from_is_err_and c.from_residual.result c.from_residual.ensures.1 in
    rw (p.1, p.2) (write_refused_id (pieces 9 c.args.rest.now) c.in-Some.id.now c.in-Some-split_once.kind.now text c.in_err-node.field-0.0
    (three c.args.rest.now c.in-Some.id.now c.in-Some.rest.now c.in-Some-split_once.kind.now text h i last) c.in_err-node.ensures)

pub returns-in_err-value : goal.returns-in_err-value
returns-in_err-value c =
    let h = pieces_once 9 c.args.rest.now (Some (c.in-Some.id, c.in-Some.rest)) (lit< tt) c.in-Some.ensures.cases in
    let i = pieces_once 9 c.in-Some.rest.now (Some (c.in-Some-split_once.kind, c.in-Some-split_once.text)) (lit< tt) c.in-Some-split_once.ensures.cases in
    let text = c.in-Some-split_once.text.now in
    let last = (pieces_contains 9 text c.contains.result (contains_char 9 text c.contains.result c.contains.ensures.cases (lit< tt))).1 c.if-contains.false in
    let p = err_from_is_err_and c.from_residual-in_err-value.result c.from_residual-in_err-value.ensures.1 in
    rw (p.1, p.2) (write_refused_value (pieces 9 c.args.rest.now) c.in-Some.id.now c.in-Some-split_once.kind.now text c.in_err-value.field-0.0
    (three c.args.rest.now c.in-Some.id.now c.in-Some.rest.now c.in-Some-split_once.kind.now text h i last) c.in_err-value.ensures)

pub returns : goal.returns
returns c =
    let h = pieces_once 9 c.args.rest.now (Some (c.in-Some.id, c.in-Some.rest)) (lit< tt) c.in-Some.ensures.cases in
    let i = pieces_once 9 c.in-Some.rest.now (Some (c.in-Some-split_once.kind, c.in-Some-split_once.text)) (lit< tt) c.in-Some-split_once.ensures.cases in
    let text = c.in-Some-split_once.text.now in
    let last = (pieces_contains 9 text c.contains.result (contains_char 9 text c.contains.result c.contains.ensures.cases (lit< tt))).1 c.if-contains.false in
    record {
      id = c.in-Some.id.now;
      kind = c.in-Some-split_once.kind.now;
      text = text;
      parts = ap (λ (t : List (List ℕ)). codes "write" ∷ t)
          (three c.args.rest.now c.in-Some.id.now c.in-Some.rest.now c.in-Some-split_once.kind.now text h i last);
      names = c.in_ok-node.ensures;
      denotes = c.in_ok-value.ensures;
    }
