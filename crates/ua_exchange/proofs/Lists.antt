-- Lists in parts.
use Rattle.std.proofs.Common.{List, [], ◌∷◌, ◌++◌, append-nil, append_assoc, subst, sym}
use Rattle.ua_frame.specs.After.{AllFrom}

-- what holds of each item of a list holds of those of its front
pub from-front : {A : Type 0} (P : List A → A → Type 0) (start xs ys : List A) → AllFrom P start (xs ++ ys) → AllFrom P start xs
from-front P start [] ys h = tt
from-front {A = A} P start (x ∷ xs) ys h = (h.0, from-front P (start ++ x ∷ []) xs ys h.1)

-- and of those behind that front
pub from-place : {A : Type 0} (P : List A → A → Type 0) (start xs ys : List A) → AllFrom P start (xs ++ ys) → AllFrom P (start ++ xs) ys
from-place {A = A} P start [] ys h = subst (λ (t : List A). AllFrom P t ys) (sym (append-nil start)) h
from-place {A = A} P start (x ∷ xs) ys h = subst (λ (t : List A). AllFrom P t ys) (append_assoc start (x ∷ []) xs) (from-place P (start ++ x ∷ []) xs ys h.1)
