-- What is added of a message that was found, or of none.
use Rattle.std.proofs.Common.{◌≡◌, ℕ, List, [], ◌++◌, IfOk, Option, Some, None, Result, Ok, Err, ◌⊎◌, inl, inr, append-nil, refl, sym, ap, subst, ◌∙◌}
use Rattle.ua_opening.specs.Message.{found_or}
use Rattle.ua_texts.specs.PlainLeaf.{Adds}
use Rattle.ua_fields.specs.Bodies.{IsFound}

-- its lines were
pub found_added : {A E : Type 0} (Is : A → List ℕ → Type 0) (value : A) (there : Option A) (r : Result (Unit {0}) E) (old new : List ℕ) → Some value ≡ there
    → Adds r old new (Is value) → Adds r old new (IsFound Is there)
found_added {A = A} Is value there r old new e h = subst (λ (o : Option A). Adds r old new (IsFound Is o)) e h

-- none are there
pub none_added : {A : Type 0} (Is : A → List ℕ → Type 0) (there : Option A) (old : List ℕ) → None ≡ there
    → (text : List ℕ) × (old ≡ old ++ text) × IsFound Is there text
none_added {A = A} Is there old e = ([], sym (append-nil old), subst (λ (o : Option A). IsFound Is o []) e refl)

-- what was found is what is there
pub is_found : {E A : Type 0} (found : Result (Option A) E) (one there : Option A) → found ≡ Ok one → IfOk found (λ o. o ≡ there) → one ≡ there
is_found {E = E} {A = A} found one there e h = subst (λ (r : Result (Option A) E). IfOk r (λ o. o ≡ there)) e h

-- ---- what was read

found_is : {A E : Type 0} (o : Option A) (other : E) (m : A) → ◌≡◌ {A = Result A E} (Ok m) (found_or o other) → Some m ≡ o
found_is None other m e = absurd cc
found_is (Some x) other m e = let same : m ≡ x = cc in ap Some same

-- the message that was read
pub there : {A E : Type 0} (o : Option A) (other : E) (r : Result A E) (m : A) (memory : E) → (r ≡ found_or o other) ⊎ (r ≡ Err memory) → r ≡ Ok m
    → Some m ≡ o
there o other r m memory (inl h) e = found_is o other m (sym e ∙ h)
there {A = A} {E = E} o other r m memory (inr h) e = let both : ◌≡◌ {A = Result A E} (Ok m) (Err memory) = sym e ∙ h in absurd cc

none_is : {A E : Type 0} (o : Option A) (other fault : E) → ◌≡◌ {A = Result A E} (Err fault) (found_or o other) → None ≡ o
none_is None other fault e = refl
none_is (Some x) other fault e = absurd cc

-- none was read
pub missing : {A E : Type 0} (o : Option A) (other : E) (r : Result A E) (fault memory : E) → (r ≡ found_or o other) ⊎ (r ≡ Err memory) → r ≡ Err fault
    → (fault ≡ memory → ⊥) → None ≡ o
missing o other r fault memory (inl h) e not_memory = none_is o other fault (sym e ∙ h)
missing {A = A} {E = E} o other r fault memory (inr h) e not_memory =
    let both : ◌≡◌ {A = Result A E} (Err fault) (Err memory) = sym e ∙ h in
    absurd (not_memory cc)
