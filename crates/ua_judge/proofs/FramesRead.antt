-- Going over the frames of bytes, one after the other.
use Rattle.std.proofs.Common.{◌≡◌, ℕ, ◌+◌, ◌-◌, ◌≤◌, List, [], ◌∷◌, ◌++◌, length, take, drop, refl, sym, ◌∙◌}
use Rattle.std.proofs.Common.{ap, subst, arith, append_assoc, append-nil, length-append, take-append-drop}
use Rattle.std.specs.List.{AllByRecursion}
use Rattle.std.proofs.lemmas.List.{length-take-le}
use Rattle.ua_frame.specs.Frames.{IsRawFrame, IsRest, Frames, joined_parts, size_of}
use Rattle.ua_frame.proofs.Fronts.{size_front}
use Rattle.ua_frame.proofs.RawFrames.{joined-cons, joined-nil}
use Rattle.ua_judge.specs.Renumbered.{each_from_place}

-- ---- the frame at the start

pub raw_front : (o : List ℕ) → 8 ≤ size_of o → size_of o ≤ length o → IsRawFrame (take (size_of o) o)
raw_front o least enough =
    let len : length (take (size_of o) o) ≡ size_of o = length-take-le (size_of o) o enough in
    record {
      header = omega (arith, len);
      size = sym (size_front (take (size_of o) o) (drop (size_of o) o) (omega (arith, len))) ∙ (ap size_of (take-append-drop (size_of o) o) ∙ sym len);
    }

-- ---- frames, with one more

pub all_more : {A : Type 0} (P : A → Type 0) (xs : List A) (x : A) → AllByRecursion P xs → P x → AllByRecursion P (xs ++ x ∷ [])
all_more P [] x all p = (p, tt)
all_more P (y ∷ ys) x all p = (all.0, all_more P ys x all.1 p)

pub joined_more : (fs : List (List ℕ)) (f rest : List ℕ) → joined_parts (fs ++ f ∷ []) ++ rest ≡ joined_parts fs ++ (f ++ rest)
joined_more [] f rest = joined-cons f [] rest ∙ (ap (λ (t : List ℕ). f ++ t) (joined-nil rest) ∙ sym (joined-nil (f ++ rest)))
joined_more (g ∷ fs) f rest = joined-cons g (fs ++ f ∷ []) rest ∙ (ap (λ (t : List ℕ). g ++ t) (joined_more fs f rest) ∙ sym (joined-cons g fs (f ++ rest)))

pub joined_length : (fs : List (List ℕ)) (f : List ℕ) → length (joined_parts (f ∷ fs)) ≡ length f + length (joined_parts fs)
joined_length fs f =
    let parts : joined_parts (f ∷ fs) ++ [] ≡ f ++ (joined_parts fs ++ []) = joined-cons f fs [] in
    omega (arith, ap length parts, length-append (joined_parts (f ∷ fs)) [], length-append f (joined_parts fs ++ []), length-append (joined_parts fs) [])

joined_none : length (joined_parts []) ≡ 0
unfolding joined_parts
joined_none = refl

pub each_more : {A : Type 0} (give : ℕ → List ℕ → List A) (at : ℕ) (fs : List (List ℕ)) (f : List ℕ) →
    each_from_place give at (fs ++ f ∷ []) ≡ each_from_place give at fs ++ give (at + length (joined_parts fs) + length f) f
unfolding joined_parts
each_more {A = A} give at [] f =
    let place : at + length f ≡ at + length (joined_parts []) + length f = omega (arith, joined_none) in
    append-nil (give (at + length f) f) ∙ ap (λ (n : ℕ). give n f) place
each_more {A = A} give at (g ∷ fs) f =
    let later = each_more give (at + length g) fs f in
    let place : at + length g + length (joined_parts fs) + length f ≡ at + length (joined_parts (g ∷ fs)) + length f = omega (arith, joined_length fs g) in
    ap (λ (t : List A). give (at + length g) g ++ t) (later ∙ ap (λ (n : ℕ). each_from_place give (at + length g) fs ++ give n f) place)
    ∙ sym (append_assoc (give (at + length g) g) (each_from_place give (at + length g) fs) (give (at + length (joined_parts (g ∷ fs)) + length f) f))

-- ---- as far as the frames were read

-- the frames before the rest gave this
pub record ReadTo {A : Type 0} (give : ℕ → List ℕ → List A) (octets rest : List ℕ) (out : List A) : Type 0 where
  pub frames : List (List ℕ)
  pub whole : octets ≡ joined_parts frames ++ rest
  pub each : AllByRecursion IsRawFrame frames
  pub out_is : out ≡ each_from_place give 0 frames

pub read_none : {A : Type 0} (give : ℕ → List ℕ → List A) (octets : List ℕ) (out : List A) → out ≡ [] → ReadTo give octets octets out
read_none give octets out none = record { frames = []; whole = sym (joined-nil octets); each = tt; out_is = none }

pub read_more : {A : Type 0} (give : ℕ → List ℕ → List A) (octets rest frame more : List ℕ) (out new : List A) → ReadTo give octets rest out
    → rest ≡ frame ++ more → IsRawFrame frame → new ≡ out ++ give (length octets - length more) frame → ReadTo give octets more new
read_more {A = A} give octets rest frame more out new r parts raw added =
    let whole : octets ≡ joined_parts (r.frames ++ frame ∷ []) ++ more = r.whole
    ∙ (ap (λ (t : List ℕ). joined_parts r.frames ++ t) parts ∙ sym (joined_more r.frames frame more)) in
    let split : octets ≡ joined_parts r.frames ++ (frame ++ more) = r.whole ∙ ap (λ (t : List ℕ). joined_parts r.frames ++ t) parts in
    let place : length octets - length more ≡ 0 + length (joined_parts r.frames) + length frame =
    omega (arith, ap length split, length-append (joined_parts r.frames) (frame ++ more), length-append frame more) in
    record {
      frames = r.frames ++ frame ∷ [];
      whole = whole;
      each = all_more IsRawFrame r.frames frame r.each raw;
      out_is = added
          ∙ (ap (λ (n : ℕ). out ++ give n frame) place ∙ (ap (λ (t : List A). t ++ give (0 + length (joined_parts r.frames) + length frame) frame) r.out_is
          ∙ sym (each_more give 0 r.frames frame)));
    }

pub read_all : {A : Type 0} (give : ℕ → List ℕ → List A) (octets rest : List ℕ) (out : List A) (r : ReadTo give octets rest out) → IsRest rest
    → Frames octets r.frames rest
read_all give octets rest out r partial = record { whole = r.whole; each = r.each; partial = partial }

pub read_shorter : {A : Type 0} (give : ℕ → List ℕ → List A) (octets rest frame more : List ℕ) (out : List A) → ReadTo give octets rest out
    → rest ≡ frame ++ more → length more ≤ length octets
read_shorter give octets rest frame more out r parts =
    omega (arith, ap length r.whole, length-append (joined_parts r.frames) rest, ap length parts, length-append frame more)

-- a raw frame and what follows it, by the size in the header
pub split_raw : (o front back : List ℕ) (n : ℕ) → n ≡ size_of o → front ≡ take n o → back ≡ drop n o → 8 ≤ n → n ≤ length o
    → (o ≡ front ++ back) × IsRawFrame front
split_raw o front back n is f b least enough =
    let raw : IsRawFrame (take (size_of o) o) = raw_front o (omega (arith, is)) (omega (arith, is)) in
    let same : take (size_of o) o ≡ front = ap (λ (k : ℕ). take k o) (sym is) ∙ sym f in
    (sym (take-append-drop n o) ∙ (ap (λ (t : List ℕ). t ++ drop n o) (sym f) ∙ ap (λ (t : List ℕ). front ++ t) (sym b)), subst IsRawFrame same raw)
