-- Steps in several parts.
use Rattle.std.proofs.Common.{◌≡◌, ℕ, ◌+◌, List, [], ◌∷◌, ◌++◌, refl, sym, subst, ap, ◌∙◌, append_assoc, arith}
use Rattle.ua_server.specs.Sharing.{SharedEvent, SharedState, shared_by, shared_over}
use Rattle.ua_concurrent.specs.Acts.{Act, ActsOver, AllTold, AreOf, Stepping, events_at, events_in, own_id, taken_in}

pub shared_both : (p : SharedState) (a b : List SharedEvent) → shared_over own_id p (a ++ b) ≡ shared_over own_id (shared_over own_id p a) b
shared_both p [] b = refl
shared_both p (e ∷ a) b = shared_both (shared_by own_id p e) a b

pub events_both : (a b : List Stepping) → events_in (a ++ b) ≡ events_in a ++ events_in b
events_both [] b = refl
events_both (s ∷ a) b = ap (λ (es : List SharedEvent). events_at s ++ es) (events_both a b) ∙ sym (append_assoc (events_at s) (events_in a) (events_in b))

pub taken_both : (a b : List Stepping) → taken_in (a ++ b) ≡ taken_in a + taken_in b
taken_both [] b = omega arith
taken_both (s ∷ a) b = let rest = taken_both a b in omega (arith, rest)

pub own_both : (k : ℕ) (a b : List Stepping) → AreOf k a → AreOf k b → AreOf k (a ++ b)
own_both k [] b x y = y
own_both k (s ∷ a) b x y = (x.0, own_both k a b x.1 y)

pub told_both : (a b : List Stepping) → AllTold a → AllTold b → AllTold (a ++ b)
told_both [] b x y = y
told_both (s ∷ a) b x y = (x.0, told_both a b x.1 y)

-- the events of all, in two parts
pub behind_both : (es : List SharedEvent) (a b : List Stepping) → (es ++ events_in a) ++ events_in b ≡ es ++ events_in (a ++ b)
behind_both es a b = append_assoc es (events_in a) (events_in b) ∙ ap (λ (x : List SharedEvent). es ++ x) (sym (events_both a b))

module _ {A : Type 0} (acts : A → Act → A → Type 0) where
  acts_parts : (p : SharedState) (a b : List Stepping) (x y z : A) → ActsOver acts p x a y → ActsOver acts (shared_over own_id p (events_in a)) y b z
      → ActsOver acts p x (a ++ b) z
  acts_parts p [] b x y z first then = subst (λ (s : A). ActsOver acts p s b z) (sym first) then
  acts_parts p (s ∷ a) b x y z first then = (
    first.0,
    first.1,
    acts_parts (shared_over own_id p (events_at s)) a b first.0 y z first.2
        (subst (λ (q : SharedState). ActsOver acts q y b z) (shared_both p (events_at s) (events_in a)) then),
  )

  -- these, and then those
  pub acts_both : (first : SharedState) (es : List SharedEvent) (a b : List Stepping) (x y z : A) → ActsOver acts (shared_over own_id first es) x a y
      → ActsOver acts (shared_over own_id first (es ++ events_in a)) y b z → ActsOver acts (shared_over own_id first es) x (a ++ b) z
  acts_both first es a b x y z did then = acts_parts (shared_over own_id first es) a b x y z did
      (subst (λ (q : SharedState). ActsOver acts q y b z) (shared_both first es (events_in a)) then)
