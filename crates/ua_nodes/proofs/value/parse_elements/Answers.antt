use Rattle.std.proofs.Common.{◌≡◌, ◌∷◌, [], List, ℕ, map, ◌∙◌, sym, ap, lit<, rules, length, Vec, Global, Some}
use Rattle.std.proofs.lemmas.Result.{err_from_is_err_and}
use Rattle.std.specs.Option.{option_map}
use Rattle.ua_variant.specs.Data.{leaf, ScalarData}
use Rattle.ua_variant.specs.declared.values.Scalar.{Scalar}
use Rattle.ua_variant.specs.View.{scalar_of}
use Rattle.ua_nodes.specs.ValueText.{leaf_denoted, leaves_denoted, elements, in_front}
use Rattle.ua_nodes.proofs.Pieces.{pieces, pieces_once}
use Rattle.ua_nodes.proofs.Elements.{element_ok, element_none, element_last, fault_of, map_push, elements_start, not_empty}
use Rattle.ua_nodes.proofs.value.parse_elements.Goals as goal

pub elements-init : goal.elements-init
elements-init c = (
  search rules,
  elements_start c.args.kind c.args.text.now (map scalar_of c.new-items.result.items) (ap (map scalar_of) c.new-items.ensures.items)
      (not_empty (length c.args.text.now) c.if-is_empty.ensures),
)

pub returns-in_err-parse_scalar : goal.returns-in_err-parse_scalar
returns-in_err-parse_scalar c =
    let p = err_from_is_err_and c.from_residual.result c.from_residual.ensures.1 in
    let h = pieces_once 44 c.elements.rest.now c.split_once.result (lit< tt) c.split_once.ensures.cases in
    let first : pieces 44 c.elements.rest.now ≡ c.in-Some.element.now ∷ pieces 44 c.in-Some.more.now = rw c.in-Some.is at h in
    let front = map scalar_of c.elements.items.items in
    let split = c.elements.invariant.1 ∙ ap (λ (t : List (List ℕ)). in_front front (leaves_denoted c.args.kind t)) first in
    rw (p.1, p.2) (fault_of scalar_of (λ (v : Vec Scalar Global). map scalar_of v.items) (option_map leaf (leaf_denoted c.args.kind c.in-Some.element.now))
    (leaves_denoted c.args.kind (elements c.args.text.now)) c.in_err-parse_scalar.field-0.0
    (λ d. element_none c.args.kind (leaves_denoted c.args.kind (elements c.args.text.now)) front c.in-Some.element.now (pieces 44 c.in-Some.more.now) split d)
    c.in_err-parse_scalar.ensures)

pub elements-preserved : goal.elements-preserved
elements-preserved c =
    let h = pieces_once 44 c.elements.rest.now c.split_once.result (lit< tt) c.split_once.ensures.cases in
    let first : pieces 44 c.elements.rest.now ≡ c.in-Some.element.now ∷ pieces 44 c.in-Some.more.now = rw c.in-Some.is at h in
    let front = map scalar_of c.elements.items.items in
    let split = c.elements.invariant.1 ∙ ap (λ (t : List (List ℕ)). in_front front (leaves_denoted c.args.kind t)) first in
    let grown = map_push scalar_of c.elements.items.items c.push.new.self.items c.in_ok-parse_scalar.field-0 c.in_ok-push.ensures.items in (
      search rules,
      element_ok c.args.kind (leaves_denoted c.args.kind (elements c.args.text.now)) front c.in-Some.element.now (pieces 44 c.in-Some.more.now)
          (scalar_of c.in_ok-parse_scalar.field-0) split c.in_ok-parse_scalar.ensures
          ∙ ap (λ (t : List ScalarData). in_front t (leaves_denoted c.args.kind (pieces 44 c.in-Some.more.now))) (sym grown),
    )

pub returns-in_err-parse_scalar-2 : goal.returns-in_err-parse_scalar-2
returns-in_err-parse_scalar-2 c =
    let p = err_from_is_err_and c.from_residual-in_err-parse_scalar-2.result c.from_residual-in_err-parse_scalar-2.ensures.1 in
    let h = pieces_once 44 c.elements.rest.now c.split_once.result (lit< tt) c.split_once.ensures.cases in
    let last : pieces 44 c.elements.rest.now ≡ c.elements.rest.now ∷ [] = rw c.in_default.is at h in
    let front = map scalar_of c.elements.items.items in
    let split = c.elements.invariant.1 ∙ ap (λ (t : List (List ℕ)). in_front front (leaves_denoted c.args.kind t)) last in
    rw (p.1, p.2) (fault_of scalar_of (λ (v : Vec Scalar Global). map scalar_of v.items) (option_map leaf (leaf_denoted c.args.kind c.elements.rest.now))
    (leaves_denoted c.args.kind (elements c.args.text.now)) c.in_err-parse_scalar-2.field-0.0
    (λ d. element_none c.args.kind (leaves_denoted c.args.kind (elements c.args.text.now)) front c.elements.rest.now [] split d)
    c.in_err-parse_scalar-2.ensures)

pub returns : goal.returns
returns c =
    let h = pieces_once 44 c.elements.rest.now c.split_once.result (lit< tt) c.split_once.ensures.cases in
    let last : pieces 44 c.elements.rest.now ≡ c.elements.rest.now ∷ [] = rw c.in_default.is at h in
    let front = map scalar_of c.elements.items.items in
    let split = c.elements.invariant.1 ∙ ap (λ (t : List (List ℕ)). in_front front (leaves_denoted c.args.kind t)) last in
    let grown = map_push scalar_of c.elements.items.items c.push-2.new.self.items c.in_ok-parse_scalar-2.field-0 c.in_ok-push-2.ensures.items in
    element_last c.args.kind (leaves_denoted c.args.kind (elements c.args.text.now)) front c.elements.rest.now (scalar_of c.in_ok-parse_scalar-2.field-0) split
    c.in_ok-parse_scalar-2.ensures
    ∙ ap (λ (t : List ScalarData). Some t) (sym grown)
