use Rattle.std.proofs.Common.{◌≡◌, ◌∷◌, [], List, ℕ, ◌≤◌, length, None, Some, lit<, arith, ap, ◌∙◌}
use Rattle.std.proofs.lemmas.Str.Pattern.{contains_char}
use Rattle.ua_nodes.proofs.Pieces.{pieces, pieces_once, pieces_contains}
use Rattle.ua_nodes.proofs.node_file.split_fields.Goals as goal

pub returns-in_err-id : goal.returns-in_err-id
returns-in_err-id c =
    let h : pieces 9 c.args.line.now ≡ c.args.line.now ∷ [] = pieces_once 9 c.args.line.now None (lit< tt) c.in_err-id.ensures.cases in
    rw c.from_residual.ensures (λ e. let one = ap length h in omega arith)

pub returns-in_err-access : goal.returns-in_err-access
returns-in_err-access c =
    let h : pieces 9 c.args.line.now ≡ c.in_ok-id.id.now ∷ pieces 9 c.in_ok-id.rest.now = pieces_once 9 c.args.line.now (Some (c.in_ok-id.id, c.in_ok-id.rest))
    (lit< tt) c.in_ok-id.ensures.cases in
    let i : pieces 9 c.in_ok-id.rest.now ≡ c.in_ok-id.rest.now ∷ [] = pieces_once 9 c.in_ok-id.rest.now None (lit< tt) c.in_err-access.ensures.cases in
    rw c.from_residual-in_err-access.ensures (λ e. let one = ap length h in let two = ap length i in omega arith)

pub returns-in_err-name : goal.returns-in_err-name
returns-in_err-name c =
    let h : pieces 9 c.args.line.now ≡ c.in_ok-id.id.now ∷ pieces 9 c.in_ok-id.rest.now = pieces_once 9 c.args.line.now (Some (c.in_ok-id.id, c.in_ok-id.rest))
    (lit< tt) c.in_ok-id.ensures.cases in
    let i : pieces 9 c.in_ok-id.rest.now ≡ c.in_ok-access.access.now ∷ pieces 9 c.in_ok-access.rest.now =
    pieces_once 9 c.in_ok-id.rest.now (Some (c.in_ok-access.access, c.in_ok-access.rest)) (lit< tt) c.in_ok-access.ensures.cases in
    let j : pieces 9 c.in_ok-access.rest.now ≡ c.in_ok-access.rest.now ∷ [] = pieces_once 9 c.in_ok-access.rest.now None (lit< tt) c.in_err-name.ensures.cases
    in
    rw c.from_residual-in_err-name.ensures (λ e. let one = ap length h in let two = ap length i in let three = ap length j in omega arith)

pub returns-in_err-kind : goal.returns-in_err-kind
returns-in_err-kind c =
    let h : pieces 9 c.args.line.now ≡ c.in_ok-id.id.now ∷ pieces 9 c.in_ok-id.rest.now = pieces_once 9 c.args.line.now (Some (c.in_ok-id.id, c.in_ok-id.rest))
    (lit< tt) c.in_ok-id.ensures.cases in
    let i : pieces 9 c.in_ok-id.rest.now ≡ c.in_ok-access.access.now ∷ pieces 9 c.in_ok-access.rest.now =
    pieces_once 9 c.in_ok-id.rest.now (Some (c.in_ok-access.access, c.in_ok-access.rest)) (lit< tt) c.in_ok-access.ensures.cases in
    let j : pieces 9 c.in_ok-access.rest.now ≡ c.in_ok-name.name.now ∷ pieces 9 c.in_ok-name.rest.now =
    pieces_once 9 c.in_ok-access.rest.now (Some (c.in_ok-name.name, c.in_ok-name.rest)) (lit< tt) c.in_ok-name.ensures.cases in
    let k : pieces 9 c.in_ok-name.rest.now ≡ c.in_ok-name.rest.now ∷ [] = pieces_once 9 c.in_ok-name.rest.now None (lit< tt) c.in_err-kind.ensures.cases in
    rw c.from_residual-in_err-kind.ensures
    (λ e. let one = ap length h in let two = ap length i in let three = ap length j in let four = ap length k in omega arith)

-- the pieces up to the last field
four : (line id access name kind value r s t : List ℕ) → pieces 9 line ≡ id ∷ pieces 9 r → pieces 9 r ≡ access ∷ pieces 9 s → pieces 9 s ≡ name ∷ pieces 9 t
    → pieces 9 t ≡ kind ∷ pieces 9 value
    → pieces 9 line ≡ id ∷ access ∷ name ∷ kind ∷ pieces 9 value
four line id access name kind value r s t h i j k =
    h ∙ ap (λ (u : List (List ℕ)). id ∷ u) (i ∙ ap (λ (u : List (List ℕ)). access ∷ u) (j ∙ ap (λ (u : List (List ℕ)). name ∷ u) k))

pub returns-then-contains : goal.returns-then-contains
returns-then-contains c =
    let h : pieces 9 c.args.line.now ≡ c.in_ok-id.id.now ∷ pieces 9 c.in_ok-id.rest.now = pieces_once 9 c.args.line.now (Some (c.in_ok-id.id, c.in_ok-id.rest))
    (lit< tt) c.in_ok-id.ensures.cases in
    let i : pieces 9 c.in_ok-id.rest.now ≡ c.in_ok-access.access.now ∷ pieces 9 c.in_ok-access.rest.now =
    pieces_once 9 c.in_ok-id.rest.now (Some (c.in_ok-access.access, c.in_ok-access.rest)) (lit< tt) c.in_ok-access.ensures.cases in
    let j : pieces 9 c.in_ok-access.rest.now ≡ c.in_ok-name.name.now ∷ pieces 9 c.in_ok-name.rest.now =
    pieces_once 9 c.in_ok-access.rest.now (Some (c.in_ok-name.name, c.in_ok-name.rest)) (lit< tt) c.in_ok-name.ensures.cases in
    let k : pieces 9 c.in_ok-name.rest.now ≡ c.in_ok-kind.kind.now ∷ pieces 9 c.in_ok-kind.value.now =
    pieces_once 9 c.in_ok-name.rest.now (Some (c.in_ok-kind.kind, c.in_ok-kind.value)) (lit< tt) c.in_ok-kind.ensures.cases in
    let all = four c.args.line.now c.in_ok-id.id.now c.in_ok-access.access.now c.in_ok-name.name.now c.in_ok-kind.kind.now c.in_ok-kind.value.now
    c.in_ok-id.rest.now c.in_ok-access.rest.now c.in_ok-name.rest.now h i j k in
    let two : 2 ≤ length (pieces 9 c.in_ok-kind.value.now) =
    (pieces_contains 9 c.in_ok-kind.value.now c.contains.result
    (contains_char 9 c.in_ok-kind.value.now c.contains.result c.contains.ensures.cases (lit< tt))).0 c.if-contains.true in
    λ e. let long = ap length all in omega arith

pub returns : goal.returns
returns c =
    let h : pieces 9 c.args.line.now ≡ c.in_ok-id.id.now ∷ pieces 9 c.in_ok-id.rest.now = pieces_once 9 c.args.line.now (Some (c.in_ok-id.id, c.in_ok-id.rest))
    (lit< tt) c.in_ok-id.ensures.cases in
    let i : pieces 9 c.in_ok-id.rest.now ≡ c.in_ok-access.access.now ∷ pieces 9 c.in_ok-access.rest.now =
    pieces_once 9 c.in_ok-id.rest.now (Some (c.in_ok-access.access, c.in_ok-access.rest)) (lit< tt) c.in_ok-access.ensures.cases in
    let j : pieces 9 c.in_ok-access.rest.now ≡ c.in_ok-name.name.now ∷ pieces 9 c.in_ok-name.rest.now =
    pieces_once 9 c.in_ok-access.rest.now (Some (c.in_ok-name.name, c.in_ok-name.rest)) (lit< tt) c.in_ok-name.ensures.cases in
    let k : pieces 9 c.in_ok-name.rest.now ≡ c.in_ok-kind.kind.now ∷ pieces 9 c.in_ok-kind.value.now =
    pieces_once 9 c.in_ok-name.rest.now (Some (c.in_ok-kind.kind, c.in_ok-kind.value)) (lit< tt) c.in_ok-kind.ensures.cases in
    let last : pieces 9 c.in_ok-kind.value.now ≡ c.in_ok-kind.value.now ∷ [] =
    (pieces_contains 9 c.in_ok-kind.value.now c.contains.result
    (contains_char 9 c.in_ok-kind.value.now c.contains.result c.contains.ensures.cases (lit< tt))).1 c.if-contains.false in
    four c.args.line.now c.in_ok-id.id.now c.in_ok-access.access.now c.in_ok-name.name.now c.in_ok-kind.kind.now c.in_ok-kind.value.now c.in_ok-id.rest.now
    c.in_ok-access.rest.now c.in_ok-name.rest.now h i j k
    ∙ ap (λ (u : List (List ℕ)). c.in_ok-id.id.now ∷ c.in_ok-access.access.now ∷ c.in_ok-name.name.now ∷ c.in_ok-kind.kind.now ∷ u) last
