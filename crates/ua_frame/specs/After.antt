-- A property of each item of a list together with the items before it.
use Rattle.std.specs.Prelude.{List, [], ◌∷◌, ◌++◌}

-- P holds of each item after the items before it, those of start among them
abbrev pub AllFrom : {A : Type 0} → (List A → A → Type 0) → List A → List A → Type 0
AllFrom P start [] = Unit {0}
AllFrom P start (x ∷ xs) = P start x × AllFrom P (start ++ x ∷ []) xs

-- what each item gives after the items before it, in order
abbrev pub each_from : {A B : Type 0} → (List A → A → List B) → List A → List A → List B
each_from g start [] = []
each_from g start (x ∷ xs) = g start x ++ each_from g (start ++ x ∷ []) xs

-- P holds of each item after those before it
unfoldable pub AllAfter : {A : Type 0} → (List A → A → Type 0) → List A → Type 0
AllAfter P xs = AllFrom P [] xs

-- what each item gives after those before it, in order
unfoldable pub each_after : {A B : Type 0} → (List A → A → List B) → List A → List B
each_after g xs = each_from g [] xs
