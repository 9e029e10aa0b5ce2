-- What both ends kept of an honest connection is what the headline speaks of.
use Rattle.std.proofs.Common.{◌≡◌, ℕ, List, ◌++◌, length, take, drop, sym, ◌∙◌, ap, true, Bool, take-append-drop}
use Rattle.std.specs.Cmp.Lexicographic.{pointwise, same_text}
use Rattle.std.specs.Prelude.{nat_eq}
use Rattle.ua_headline.specs.Talk.{IsPrefix}

-- what a list is found to start with is a prefix of it
begun : (xs needle : List ℕ) → true ≡ pointwise nat_eq needle (take (length needle) xs) → IsPrefix needle xs
begun xs needle h = (
  drop (length needle) xs,
  sym (take-append-drop (length needle) xs)
      ∙ ap (λ (o : List ℕ). o ++ drop (length needle) xs) (sym (same_text needle (take (length needle) xs) h)),
)

pub starts : (b : Bool) (xs needle : List ℕ) → b ≡ pointwise nat_eq needle (take (length needle) xs) → b ≡ true → IsPrefix needle xs
starts b xs needle is holds = begun xs needle (sym holds ∙ is)
