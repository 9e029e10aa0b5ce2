use Rattle.std.proofs.Common.{◌≡◌, ◌∷◌, [], List, ℕ, map, ◌∙◌, sym, ap, lit<, rules, length, Vec, Global, Some}
use Rattle.std.proofs.lemmas.Result.{err_from_is_err_and}
use Rattle.std.specs.Option.{option_map}
use Rattle.ua_variant.specs.Data.{leaf, ScalarData}
use Rattle.ua_nodes.specs.ValueText.{leaf_denoted, leaves_denoted, elements, in_front}
use Rattle.ua_nodes.proofs.Pieces.{pieces, pieces_once}
use Rattle.ua_nodes.proofs.Elements.{element_ok, element_none, element_last, fault_of, leaves_push, elements_start, not_empty}
use Rattle.ua_nodes.proofs.value.parse_items.Goals as goal

pub elements-init : goal.elements-init
elements-init g c = (
  search rules,
  elements_start g.T.Leaf.kind c.args.text.now (map leaf (map g.T.Leaf.as_leaf c.new-items.result.items))
      (ap (λ xs. map leaf (map g.T.Leaf.as_leaf xs)) c.new-items.ensures.items) (not_empty (length c.args.text.now) c.if-is_empty.ensures),
)

pub returns-in_err-denoted : goal.returns-in_err-denoted
returns-in_err-denoted g c =
    let p = err_from_is_err_and c.from_residual.result c.from_residual.ensures.1 in
    let h = pieces_once 44 c.elements.rest.now c.split_once.result (lit< tt) c.split_once.ensures.cases in
    let first : pieces 44 c.elements.rest.now ≡ c.in-Some.element.now ∷ pieces 44 c.in-Some.more.now = rw c.in-Some.is at h in
    let kind = g.T.Leaf.kind in
    let front = map leaf (map g.T.Leaf.as_leaf c.elements.items.items) in
    let split = c.elements.invariant.1 ∙ ap (λ (t : List (List ℕ)). in_front front (leaves_denoted kind t)) first in
    rw (p.1, p.2) (fault_of g.T.Leaf.as_leaf (λ (v : Vec g.row.T.Denot Global). map leaf (map g.T.Leaf.as_leaf v.items))
    (leaf_denoted kind c.in-Some.element.now) (leaves_denoted kind (elements c.args.text.now)) c.in_err-denoted.field-0.0
    (λ d. element_none kind (leaves_denoted kind (elements c.args.text.now)) front c.in-Some.element.now (pieces 44 c.in-Some.more.now) split
    (ap (option_map leaf) d)) c.in_err-denoted.ensures)

pub elements-preserved : goal.elements-preserved
elements-preserved g c =
    let h = pieces_once 44 c.elements.rest.now c.split_once.result (lit< tt) c.split_once.ensures.cases in
    let first : pieces 44 c.elements.rest.now ≡ c.in-Some.element.now ∷ pieces 44 c.in-Some.more.now = rw c.in-Some.is at h in
    let kind = g.T.Leaf.kind in
    let front = map leaf (map g.T.Leaf.as_leaf c.elements.items.items) in
    let split = c.elements.invariant.1 ∙ ap (λ (t : List (List ℕ)). in_front front (leaves_denoted kind t)) first in
    let grown = leaves_push g.T.Leaf.as_leaf c.elements.items.items c.push.new.self.items c.in_ok-denoted.field-0 c.in_ok-push.ensures.items in (
      search rules,
      element_ok kind (leaves_denoted kind (elements c.args.text.now)) front c.in-Some.element.now (pieces 44 c.in-Some.more.now)
          (leaf (g.T.Leaf.as_leaf c.in_ok-denoted.field-0)) split (ap (option_map leaf) c.in_ok-denoted.ensures)
          ∙ ap (λ (t : List ScalarData). in_front t (leaves_denoted kind (pieces 44 c.in-Some.more.now))) (sym grown),
    )

pub returns-in_err-denoted-2 : goal.returns-in_err-denoted-2
returns-in_err-denoted-2 g c =
    let p = err_from_is_err_and c.from_residual-in_err-denoted-2.result c.from_residual-in_err-denoted-2.ensures.1 in
    let h = pieces_once 44 c.elements.rest.now c.split_once.result (lit< tt) c.split_once.ensures.cases in
    let last : pieces 44 c.elements.rest.now ≡ c.elements.rest.now ∷ [] = rw c.in_default.is at h in
    let kind = g.T.Leaf.kind in
    let front = map leaf (map g.T.Leaf.as_leaf c.elements.items.items) in
    let split = c.elements.invariant.1 ∙ ap (λ (t : List (List ℕ)). in_front front (leaves_denoted kind t)) last in
    rw (p.1, p.2) (fault_of g.T.Leaf.as_leaf (λ (v : Vec g.row.T.Denot Global). map leaf (map g.T.Leaf.as_leaf v.items)) (leaf_denoted kind c.elements.rest.now)
    (leaves_denoted kind (elements c.args.text.now)) c.in_err-denoted-2.field-0.0
    (λ d. element_none kind (leaves_denoted kind (elements c.args.text.now)) front c.elements.rest.now [] split (ap (option_map leaf) d))
    c.in_err-denoted-2.ensures)

pub returns : goal.returns
returns g c =
    let h = pieces_once 44 c.elements.rest.now c.split_once.result (lit< tt) c.split_once.ensures.cases in
    let last : pieces 44 c.elements.rest.now ≡ c.elements.rest.now ∷ [] = rw c.in_default.is at h in
    let kind = g.T.Leaf.kind in
    let front = map leaf (map g.T.Leaf.as_leaf c.elements.items.items) in
    let split = c.elements.invariant.1 ∙ ap (λ (t : List (List ℕ)). in_front front (leaves_denoted kind t)) last in
    let grown = leaves_push g.T.Leaf.as_leaf c.elements.items.items c.push-2.new.self.items c.in_ok-denoted-2.field-0 c.in_ok-push-2.ensures.items in
    element_last kind (leaves_denoted kind (elements c.args.text.now)) front c.elements.rest.now (leaf (g.T.Leaf.as_leaf c.in_ok-denoted-2.field-0)) split
    (ap (option_map leaf) c.in_ok-denoted-2.ensures)
    ∙ ap (λ (t : List ScalarData). Some t) (sym grown)
