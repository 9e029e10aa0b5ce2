-- What is said of each item of a list together with the items before it, with one item more.
use Rattle.std.specs.Prelude.{◌≡◌, List, [], ◌∷◌, ◌++◌}
use Rattle.std.proofs.Common.{sym, subst, ap, ◌∙◌, append-nil, append_assoc}
use Rattle.ua_frame.specs.After.{AllFrom, each_from, AllAfter, each_after}

AllFrom-push : {A : Type 0} (P : List A → A → Type 0) (start xs : List A) (y : A) → AllFrom P start xs → P (start ++ xs) y → AllFrom P start (xs ++ y ∷ [])
AllFrom-push {A = A} P start [] y h p = (subst (λ (t : List A). P t y) (append-nil start) p, tt)
AllFrom-push {A = A} P start (x ∷ xs) y h p =
    (h.0, AllFrom-push P (start ++ x ∷ []) xs y h.1 (subst (λ (t : List A). P t y) (sym (append_assoc start (x ∷ []) xs)) p))

-- one item more
pub AllAfter-push : {A : Type 0} (P : List A → A → Type 0) (xs : List A) (y : A) → AllAfter P xs → P xs y → AllAfter P (xs ++ y ∷ [])
unfolding AllAfter
AllAfter-push P xs y h p = AllFrom-push P [] xs y h p

pub AllAfter-nil : {A : Type 0} (P : List A → A → Type 0) → AllAfter P []
unfolding AllAfter
AllAfter-nil P = tt

each_from-push : {A B : Type 0} (g : List A → A → List B) (start xs : List A) (y : A) → each_from g start (xs ++ y ∷ []) ≡ each_from g start xs
    ++ g (start ++ xs) y
each_from-push {A = A} g start [] y = append-nil (g start y) ∙ ap (λ (t : List A). g t y) (sym (append-nil start))
each_from-push {A = A} {B = B} g start (x ∷ xs) y =
    ap (λ (t : List B). g start x ++ t) (each_from-push g (start ++ x ∷ []) xs y)
    ∙ (sym (append_assoc (g start x) (each_from g (start ++ x ∷ []) xs) (g ((start ++ x ∷ []) ++ xs) y))
    ∙ ap (λ (t : List A). (g start x ++ each_from g (start ++ x ∷ []) xs) ++ g t y) (append_assoc start (x ∷ []) xs))

-- one item more
pub each_after-push : {A B : Type 0} (g : List A → A → List B) (xs : List A) (y : A) → each_after g (xs ++ y ∷ []) ≡ each_after g xs ++ g xs y
unfolding each_after
each_after-push g xs y = each_from-push g [] xs y
