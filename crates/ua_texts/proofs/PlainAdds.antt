-- Texts that were added.
use Rattle.std.proofs.Common.{◌≡◌, ℕ, List, ◌++◌, append_assoc, ap, ◌∙◌, OnOk, Result, Ok, Err, is_ok, if◌then◌else◌}
use Rattle.ua_texts.specs.PlainLeaf.{Adds}

-- what is added where there is memory
pub adds_if : {E : Type 0} (r : Result (Unit {0}) E) (old new text : List ℕ) (Holds : List ℕ → Type 0) → new ≡ (if is_ok r then old ++ text else old)
    → Holds text → Adds r old new Holds
adds_if (Ok u) old new text Holds e h = (text, e, h)
adds_if (Err x) old new text Holds e h = tt

-- what is added is this text
pub adds_is : {E : Type 0} (r : Result (Unit {0}) E) (old new text : List ℕ) (Holds : List ℕ → Type 0) → OnOk r (new ≡ old ++ text) → Holds text
    → Adds r old new Holds
adds_is (Ok u) old new text Holds e h = (text, e, h)
adds_is (Err x) old new text Holds e h = tt

-- a text of another description, behind one that was added before
pub adds_behind : {E : Type 0} (r : Result (Unit {0}) E) (old mid new front : List ℕ) (Holds Wanted : List ℕ → Type 0) → mid ≡ old ++ front
    → ((text : List ℕ) → Holds text → Wanted (front ++ text))
    → Adds r mid new Holds → Adds r old new Wanted
adds_behind (Ok u) old mid new front Holds Wanted e w h = (front ++ h.0, h.1 ∙ ap (λ (t : List ℕ). t ++ h.0) e ∙ append_assoc old front h.0, w h.0 h.2)
adds_behind (Err x) old mid new front Holds Wanted e w h = tt

-- a text, and behind it another
pub adds_then : {E : Type 0} (r : Result (Unit {0}) E) (old mid new back : List ℕ) (Holds Wanted : List ℕ → Type 0)
    → ((text : List ℕ) × (mid ≡ old ++ text) × Holds text)
    → OnOk r (new ≡ mid ++ back) → ((text : List ℕ) → Holds text → Wanted (text ++ back)) → Adds r old new Wanted
adds_then (Ok u) old mid new back Holds Wanted h e w = (h.0 ++ back, e ∙ ap (λ (t : List ℕ). t ++ back) h.1 ∙ append_assoc old h.0 back, w h.0 h.2)
adds_then (Err x) old mid new back Holds Wanted h e w = tt

-- what was added is so as well
pub adds_as : {E : Type 0} (r : Result (Unit {0}) E) (old new : List ℕ) (Holds Wanted : List ℕ → Type 0) → ((text : List ℕ) → Holds text → Wanted text)
    → Adds r old new Holds → Adds r old new Wanted
adds_as (Ok u) old new Holds Wanted w h = (h.0, h.1, w h.0 h.2)
adds_as (Err x) old new Holds Wanted w h = tt
