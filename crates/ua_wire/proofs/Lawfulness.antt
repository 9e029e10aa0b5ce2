-- Formats made of sound or lawful formats are sound or lawful.
use Rattle.std.specs.Prelude.{◌≡◌, ℕ, suc, ◌≤◌, List, [], ◌∷◌, ◌^◌, Bool, true, false, cond, IsTrue, length}
use Rattle.std.proofs.Common.{refl, ◌∙◌, ap, subst, arith, length-append}
use Rattle.std.proofs.lemmas.Bool.{ltb-true}
use Rattle.ua_wire.specs.Exact.{Exact, Follows, Joined, pair_read, Image, image_read}
use Rattle.ua_wire.specs.Number.{IsNumber}
use Rattle.ua_wire.specs.Format.{Flat, Format, flat, IsSound, IsLawful, Within, TakesSome}
use Rattle.ua_wire.specs.Join.{number, nothing, only, both, image, made, such, pair, struct, pair_depth, pair_count}
use Rattle.ua_wire.proofs.Readers.{both_true, not_false, append_empty, exact_never, exact_only, exact_same, exact_pair, exact_image, exact_such}
use Rattle.ua_wire.proofs.NumbersRead.{exact_number, number_some}

-- ---- no encoding is empty

pub number_starts : (k : ℕ) → TakesSome (IsNumber (suc k))
number_starts k v h = number_some k v h

pub bind_starts : {A B : Type 0} (p : A → List ℕ → Type 0) (q : A → B → List ℕ → Type 0) → TakesSome p → TakesSome (Follows p q)
bind_starts p q starts v h = starts h.head (subst (p h.head) (append_empty h.front h.back h.parts) h.head_encoded)

pub pair_starts : {A B : Type 0} (p : A → List ℕ → Type 0) (q : B → List ℕ → Type 0) → TakesSome p → TakesSome (Joined p q)
pair_starts p q starts v h = starts v.0 (subst (p v.0) (append_empty h.front h.back h.parts) h.first_encoded)

pub image_starts : {A B : Type 0} (make : A → B) (p : A → List ℕ → Type 0) → TakesSome p → TakesSome (Image make p)
image_starts make p starts v h = starts h.of h.encoded

-- ---- flat formats

pub sound_number : (k : ℕ) → IsSound (number k)
sound_number k = record { exact = exact_number k; canonical_encodes = λ n h. (ltb-true n (256 ^ k) h, refl) }

pub sound_nothing : {A : Type 0} → IsSound (nothing {A = A})
sound_nothing = record { exact = exact_never; canonical_encodes = λ v h. not_false h }

pub sound_only : {A : Type 0} (x : A) (is : A → Bool) → ((v : A) → IsTrue (is v) → v ≡ x) → IsSound (only x is)
sound_only x is same = record { exact = exact_only x; canonical_encodes = λ v h. (same v h, refl) }

pub sound_both : {A B : Type 0} {f : Flat A} {g : Flat B} → IsSound f → IsSound g → IsSound (both f g)
sound_both {f = f} {g = g} first second = record {
  exact = exact_pair f.encodes f.decode g.encodes g.decode first.exact second.exact;
  canonical_encodes = λ v h.
      let w = both_true (f.encodable v.0) (g.encodable v.1) h in
      record {
        front = f.canonical v.0;
        back = g.canonical v.1;
        parts = refl;
        first_encoded = first.canonical_encodes v.0 w.0;
        second_encoded = second.canonical_encodes v.1 w.1;
      };
}

pub sound_image : {A B : Type 0} {f : Flat A} (make : A → B) (parts : B → A) (is : B → Bool) → ((v : B) → IsTrue (is v) → v ≡ make (parts v)) → IsSound f
    → IsSound (image make parts is f)
sound_image {f = f} make parts is back sound = record {
  exact = exact_image make f.encodes f.decode sound.exact;
  canonical_encodes = λ v h.
      let w = both_true (is v) (f.encodable (parts v)) h in
      record { of = parts v; is = back v w.0; encoded = sound.canonical_encodes (parts v) w.1 };
}

pub sound_made : {A B : Type 0} {f : Flat A} (make : A → B) (parts : B → A) → ((v : B) → v ≡ make (parts v)) → IsSound f → IsSound (made make parts f)
sound_made {f = f} make parts back sound = record {
  exact = exact_image make f.encodes f.decode sound.exact;
  canonical_encodes = λ v h. record { of = parts v; is = back v; encoded = sound.canonical_encodes (parts v) h };
}

pub sound_such : {A : Type 0} {f : Flat A} (test : A → Bool) → IsSound f → IsSound (such test f)
sound_such {f = f} test sound = record {
  exact = exact_such test f.encodes f.decode sound.exact;
  canonical_encodes = λ v h.
      let w = both_true (test v) (f.encodable v) h in
      (w.0, sound.canonical_encodes v w.1);
}

-- of two formats, of which a test chooses one
pub sound_chosen : {A : Type 0} (test : Bool) (f g : Flat A) → IsSound f → IsSound g → IsSound (cond test f g)
sound_chosen true f g one other = one
sound_chosen false f g one other = other

-- ---- flat formats as formats

-- an encoding that is not empty is as long as one value
one_within : (b : List ℕ) → (b ≡ [] → ⊥) → 1 ≤ length b
one_within [] h = absurd (h refl)
one_within (x ∷ b) h = omega arith

pub lawful_flat : {A : Type 0} {f : Flat A} → IsSound f → TakesSome f.encodes → IsLawful (flat f)
lawful_flat {A = A} {f = f} sound some = record {
  exact = λ levels. exact_same f.encodes (Within f.encodes (λ v. 0) levels) f.decode (λ v b h. (h, omega arith)) (λ v b h. h.0) sound.exact;
  canonical_encodes = sound.canonical_encodes;
  encodable_depth = λ v h. omega arith;
  counted = λ v b h. one_within b (λ e. some v (subst (f.encodes v) e h));
  starts = some;
}

pub lawful_8 : IsLawful (flat (number 1))
lawful_8 = lawful_flat (sound_number 1) (number_starts 0)

pub lawful_16 : IsLawful (flat (number 2))
lawful_16 = lawful_flat (sound_number 2) (number_starts 1)

pub lawful_32 : IsLawful (flat (number 4))
lawful_32 = lawful_flat (sound_number 4) (number_starts 3)

pub lawful_64 : IsLawful (flat (number 8))
lawful_64 = lawful_flat (sound_number 8) (number_starts 7)

-- ---- formats with levels

joined_within : {A B : Type 0} (f : Format A) (g : Format B) (levels : ℕ) (v : A × B) (b : List ℕ)
    → Joined (Within f.encodes f.depth levels) (Within g.encodes g.depth levels) v b
    → Within (Joined f.encodes g.encodes) (pair_depth f.depth g.depth) levels v b
joined_within f g levels v b h = (
  record { front = h.front; back = h.back; parts = h.parts; first_encoded = h.first_encoded.0; second_encoded = h.second_encoded.0 },
  omega (arith, h.first_encoded.1, h.second_encoded.1),
)

within_joined : {A B : Type 0} (f : Format A) (g : Format B) (levels : ℕ) (v : A × B) (b : List ℕ)
    → Within (Joined f.encodes g.encodes) (pair_depth f.depth g.depth) levels v b
    → Joined (Within f.encodes f.depth levels) (Within g.encodes g.depth levels) v b
within_joined f g levels v b h = record {
  front = h.0.front;
  back = h.0.back;
  parts = h.0.parts;
  first_encoded = (h.0.first_encoded, omega (arith, h.1));
  second_encoded = (h.0.second_encoded, omega (arith, h.1));
}

pair_exact : {A B : Type 0} (f : Format A) (g : Format B) → IsLawful f → IsLawful g → (levels : ℕ)
    → Exact (Within (Joined f.encodes g.encodes) (pair_depth f.depth g.depth) levels) (pair_read (f.decode levels) (g.decode levels))
pair_exact f g first second levels =
    exact_same (Joined (Within f.encodes f.depth levels) (Within g.encodes g.depth levels))
    (Within (Joined f.encodes g.encodes) (pair_depth f.depth g.depth) levels) (pair_read (f.decode levels) (g.decode levels)) (joined_within f g levels)
    (within_joined f g levels)
    (exact_pair (Within f.encodes f.depth levels) (f.decode levels) (Within g.encodes g.depth levels) (g.decode levels) (first.exact levels)
    (second.exact levels))

pair_counted : {A B : Type 0} (f : Format A) (g : Format B) → IsLawful f → IsLawful g → (v : A × B) (b : List ℕ) → Joined f.encodes g.encodes v b
    → pair_count f.count g.count v ≤ length b
pair_counted f g first second v b h =
    let one : f.count v.0 ≤ length h.front = first.counted v.0 h.front h.first_encoded in
    let two : g.count v.1 ≤ length h.back = second.counted v.1 h.back h.second_encoded in
    omega (arith, ap length h.parts, length-append h.front h.back)

pub lawful_pair : {A B : Type 0} {f : Format A} {g : Format B} → IsLawful f → IsLawful g → IsLawful (pair f g)
lawful_pair {f = f} {g = g} first second = record {
  exact = pair_exact f g first second;
  canonical_encodes = λ v h.
      let w = both_true (f.encodable v.0) (g.encodable v.1) h in
      record {
        front = f.canonical v.0;
        back = g.canonical v.1;
        parts = refl;
        first_encoded = first.canonical_encodes v.0 w.0;
        second_encoded = second.canonical_encodes v.1 w.1;
      };
  encodable_depth = λ v h.
      let w = both_true (f.encodable v.0) (g.encodable v.1) h in
      omega (arith, first.encodable_depth v.0 w.0, second.encodable_depth v.1 w.1);
  counted = pair_counted f g first second;
  starts = pair_starts f.encodes g.encodes first.starts;
}

image_within : {A B : Type 0} (make : A → B) (parts : B → A) (forth : (x : A) → parts (make x) ≡ x) (f : Format A) (levels : ℕ) (v : B) (b : List ℕ)
    → Image make (Within f.encodes f.depth levels) v b → Within (Image make f.encodes) (λ v. f.depth (parts v)) levels v b
image_within make parts forth f levels v b h =
    let same : f.depth (parts v) ≡ f.depth h.of = ap f.depth (ap parts h.is ∙ forth h.of) in
    (record { of = h.of; is = h.is; encoded = h.encoded.0 }, omega (arith, h.encoded.1))

within_image : {A B : Type 0} (make : A → B) (parts : B → A) (forth : (x : A) → parts (make x) ≡ x) (f : Format A) (levels : ℕ) (v : B) (b : List ℕ)
    → Within (Image make f.encodes) (λ v. f.depth (parts v)) levels v b → Image make (Within f.encodes f.depth levels) v b
within_image make parts forth f levels v b h =
    let same : f.depth (parts v) ≡ f.depth h.0.of = ap f.depth (ap parts h.0.is ∙ forth h.0.of) in
    record { of = h.0.of; is = h.0.is; encoded = (h.0.encoded, omega (arith, h.1)) }

struct_exact : {A B : Type 0} (make : A → B) (parts : B → A) → ((x : A) → parts (make x) ≡ x) → (f : Format A) → IsLawful f → (levels : ℕ)
    → Exact (Within (Image make f.encodes) (λ v. f.depth (parts v)) levels) (image_read make (f.decode levels))
struct_exact make parts forth f lawful levels =
    exact_same (Image make (Within f.encodes f.depth levels)) (Within (Image make f.encodes) (λ v. f.depth (parts v)) levels)
    (image_read make (f.decode levels)) (image_within make parts forth f levels) (within_image make parts forth f levels)
    (exact_image make (Within f.encodes f.depth levels) (f.decode levels) (lawful.exact levels))

struct_counted : {A B : Type 0} (make : A → B) (parts : B → A) → ((x : A) → parts (make x) ≡ x) → (f : Format A) → IsLawful f → (v : B) (b : List ℕ)
    → Image make f.encodes v b → f.count (parts v) ≤ length b
struct_counted make parts forth f lawful v b h =
    let same : f.count (parts v) ≡ f.count h.of = ap f.count (ap parts h.is ∙ forth h.of) in
    omega (arith, lawful.counted h.of b h.encoded)

-- back: a value is made of its parts; forth: its parts are what it is made of
pub lawful_struct : {A B : Type 0} {f : Format A} (make : A → B) (parts : B → A) (back : (v : B) → v ≡ make (parts v)) (forth : (x : A) → parts (make x) ≡ x)
    → IsLawful f → IsLawful (struct make parts f)
lawful_struct {f = f} make parts back forth lawful = record {
  exact = struct_exact make parts forth f lawful;
  canonical_encodes = λ v h. record { of = parts v; is = back v; encoded = lawful.canonical_encodes (parts v) h };
  encodable_depth = λ v h. lawful.encodable_depth (parts v) h;
  counted = struct_counted make parts forth f lawful;
  starts = image_starts make f.encodes lawful.starts;
}
