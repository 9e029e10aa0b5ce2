-- The parts of a message, joined.
use Rattle.std.proofs.Common.{◌≡◌, ℕ, ◌+◌, ◌<◌, List, [], ◌∷◌, ◌++◌, sym, ◌∙◌, ap, length, take, get_or, append-nil}
use Rattle.std.specs.List.{concat}
use Rattle.std.proofs.lemmas.List.{take_more}
use Rattle.std.proofs.lemmas.List.Folds.{concat-append}

-- one part more
pub one_more : (parts : List (List ℕ)) (i : ℕ) (part before out : List ℕ) → i < length parts → part ≡ get_or parts i part → before ≡ concat (take i parts)
    → out ≡ before ++ part
    → out ≡ concat (take (i + 1) parts)
one_more parts i part before out h is all added =
    added ∙ ap (λ (t : List ℕ). t ++ part) all ∙ ap (λ (t : List ℕ). concat (take i parts) ++ t) (is ∙ sym (append-nil (get_or parts i part)))
    ∙ sym (concat-append (take i parts) (get_or parts i part ∷ [])) ∙ ap concat (sym (take_more parts i part h))
