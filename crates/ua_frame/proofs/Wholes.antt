-- Values whose encoding is the whole of some octets.
use Rattle.std.proofs.Common.{◌≡◌, ℕ, List, [], ◌∷◌, Option, Some, None, refl, sym, ◌∙◌, ap, subst, arith, append-nil}
use Rattle.ua_wire.specs.Exact.{Exact}
use Rattle.ua_wire.specs.Format.{Flat, flat, IsSound, IsWhole}
use Rattle.ua_wire.proofs.Readers.{some_is}
use Rattle.ua_frame.specs.Whole.{if_nothing_left, whole_of}

-- ---- by an exact reader

all_read : {A : Type 0} (encodes : A → List ℕ → Type 0) (decode : List ℕ → Option (A × List ℕ)) → Exact encodes decode → (octets : List ℕ) (v : A)
    → encodes v octets → if_nothing_left (decode octets) ≡ Some v
all_read encodes decode exact octets v h = ap if_nothing_left (ap decode (sym (append-nil octets)) ∙ exact.complete v octets [] h)

found_all : {A : Type 0} (encodes : A → List ℕ → Type 0) (decode : List ℕ → Option (A × List ℕ)) → Exact encodes decode
    → (octets : List ℕ) (v : A) (found : Option (A × List ℕ)) → decode octets ≡ found → if_nothing_left found ≡ Some v → encodes v octets
found_all encodes decode exact octets v None e is = absurd cc
found_all encodes decode exact octets v (Some (w, [])) e is =
    let s = exact.sound octets w [] e in
    let same : w ≡ v = some_is w v is in
    subst (λ u. encodes u octets) same (subst (λ (t : List ℕ). encodes w t) (sym (s.parts ∙ append-nil s.front)) s.encoded)
found_all encodes decode exact octets v (Some (w, x ∷ rest)) e is = absurd cc

-- ---- of a flat format

-- what the octets encode is what they are the whole of
pub whole_encodes : {A : Type 0} (f : Flat A) → IsSound f → (octets : List ℕ) (v : A) → f.encodes v octets → whole_of f octets ≡ Some v
unfolding whole_of
whole_encodes f sound octets v h = all_read f.encodes f.decode sound.exact octets v h

pub encodes_whole : {A : Type 0} (f : Flat A) → IsSound f → (octets : List ℕ) (v : A) → whole_of f octets ≡ Some v → f.encodes v octets
unfolding whole_of
encodes_whole f sound octets v h = found_all f.encodes f.decode sound.exact octets v (f.decode octets) refl h

no_value : {A : Type 0} (f : Flat A) → IsSound f → (octets : List ℕ) → IsWhole (flat f) octets None → (o : Option A) → whole_of f octets ≡ o
    → whole_of f octets ≡ None
no_value f sound octets h None e = e
no_value f sound octets h (Some v) e = absurd (h v (omega arith) (encodes_whole f sound octets v e))

-- what was read as the whole of the octets is so by the definition
pub whole_read : {A : Type 0} (f : Flat A) → IsSound f → (octets : List ℕ) (read : Option A) → IsWhole (flat f) octets read → whole_of f octets ≡ read
whole_read f sound octets None h = no_value f sound octets h (whole_of f octets) refl
whole_read f sound octets (Some v) h = whole_encodes f sound octets v h.0
