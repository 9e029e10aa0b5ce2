use Rattle.std.proofs.Common.{◌≡◌, ◌∙◌, ◌∷◌, [], List, ℕ, None, Some, codes, lit<, ap, sym, subst, rules}
use Rattle.ua_nodes.proofs.Pieces.{pieces, pieces_once}
use Rattle.ua_answers.specs.Script.{AsksNothing, GivesStep}
use Rattle.ua_answers.proofs.Steps.{no_first}
use Rattle.ua_answers.proofs.script.parse_step.Goals as goal

pub returns-in_default : goal.returns-in_default
returns-in_default c =
    let h : pieces 9 c.args.line.now ≡ c.args.line.now ∷ [] = pieces_once 9 c.args.line.now None (lit< tt) c.in_default.ensures.cases in
    subst (λ (fields : List (List ℕ)). GivesStep fields c.parse_word.result) (sym h) c.parse_word.ensures

pub returns-in-read : goal.returns-in-read
returns-in-read c =
    let h : pieces 9 c.args.line.now ≡ c.in-Some.word.now ∷ pieces 9 c.in-Some.rest.now = pieces_once 9 c.args.line.now (Some (c.in-Some.word, c.in-Some.rest))
    (lit< tt) c.in-Some.ensures.cases in
    let word : c.in-Some.word.now ≡ codes "read" = search rules in
    subst (λ (fields : List (List ℕ)). GivesStep fields c.parse_read.result) (sym (h ∙ ap (λ (w : List ℕ). w ∷ pieces 9 c.in-Some.rest.now) word))
    c.parse_read.ensures

pub returns-in-write : goal.returns-in-write
returns-in-write c =
    let h : pieces 9 c.args.line.now ≡ c.in-Some.word.now ∷ pieces 9 c.in-Some.rest.now = pieces_once 9 c.args.line.now (Some (c.in-Some.word, c.in-Some.rest))
    (lit< tt) c.in-Some.ensures.cases in
    let word : c.in-Some.word.now ≡ codes "write" = search rules in
    subst (λ (fields : List (List ℕ)). GivesStep fields c.parse_write.result) (sym (h ∙ ap (λ (w : List ℕ). w ∷ pieces 9 c.in-Some.rest.now) word))
    c.parse_write.ensures

pub returns-in_default-word : goal.returns-in_default-word
returns-in_default-word c =
    let h : pieces 9 c.args.line.now ≡ c.in-Some.word.now ∷ pieces 9 c.in-Some.rest.now = pieces_once 9 c.args.line.now (Some (c.in-Some.word, c.in-Some.rest))
    (lit< tt) c.in-Some.ensures.cases in
    subst AsksNothing (sym h) (no_first c.in-Some.word.now c.in-Some.rest.now (λ e. search rules) (λ e. search rules))
