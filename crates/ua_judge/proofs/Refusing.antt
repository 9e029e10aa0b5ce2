-- What bytes come to under rules with one more reason.
use Rattle.std.proofs.Common.{◌≡◌, ℕ, ◌⊎◌, inl, inr, List, [], ◌∷◌, ◌++◌, Bool, true, false, Some, refl, sym, ◌∙◌, subst, append-nil, append_assoc}
use Rattle.std.specs.List.{list_any}
use Rattle.std.proofs.lemmas.Bool.{or_parts}
use Rattle.std.proofs.lemmas.List.Folds.{list_any-append}
use Rattle.ua_builtin.specs.Reasons.{first_reason}
use Rattle.ua_builtin.proofs.FirstReasons.{first_among, first_behind, first_not_last}
use Rattle.ua_channel.specs.Stops.{StopsAt}
use Rattle.ua_frame.specs.After.{AllAfter, AllFrom, each_after, each_from}
use Rattle.ua_frame.specs.declared.frame.Frame.{Frame}
use Rattle.ua_frame.specs.Frames.{frame_octets, frames_octets}
use Rattle.ua_frame.proofs.Streams.{frames_octets-push}
use Rattle.ua_frame.specs.Run.{Fits, Going, Rules, Run, Stopped, WrongFrame, WrongHeader, events}
use Rattle.ua_judge.specs.Verdicts.{EndWrong, refusing}

-- ---- reasons

two_parts : {E : Type 0} (p : E → Bool) (xs ys : List E) → list_any p (xs ++ ys) ≡ false → (list_any p xs ≡ false) × (list_any p ys ≡ false)
two_parts p xs ys none = or_parts (list_any p xs) (list_any p ys) (sym (list_any-append p xs ys) ∙ none)

last_one : {X : Type 0} (why : X) (b : Bool) → b ≡ true → first_reason ((why, b) ∷ []) ≡ Some why
last_one why true e = refl
last_one why false e = absurd cc

-- ---- frames

fits_too : {E X : Type 0} (R : Rules E X) (why : X) (p : E → Bool) (before : List Frame) (f : Frame) → Fits R before f
    → list_any p (R.tells before f) ≡ false → Fits (refusing R why p) before f
fits_too R why p before f h none = record {
  goes_on = h.goes_on;
  sized = h.sized;
  let_in = h.let_in;
  accepted = first_not_last (R.reasons before f) why (list_any p (R.tells before f)) none ∙ h.accepted;
}

all_too : {E X : Type 0} (R : Rules E X) (why : X) (p : E → Bool) (start fs : List Frame) → AllFrom (Fits R) start fs
    → list_any p (each_from R.tells start fs) ≡ false → AllFrom (Fits (refusing R why p)) start fs
all_too R why p start [] all none = tt
all_too R why p start (f ∷ fs) all none =
    let parts = two_parts p (R.tells start f) (each_from R.tells (start ++ f ∷ []) fs) none in
    (fits_too R why p start f all.0 parts.0, all_too R why p (start ++ f ∷ []) fs all.1 parts.1)

good_too : {E X : Type 0} (R : Rules E X) (why : X) (p : E → Bool) (fs : List Frame) → AllAfter (Fits R) fs → list_any p (events R fs) ≡ false
    → AllAfter (Fits (refusing R why p)) fs
unfolding AllAfter each_after
good_too R why p fs all none = all_too R why p [] fs all none

-- ---- all but the last

AllFrom-front : {A : Type 0} (P : List A → A → Type 0) (start xs : List A) (y : A) → AllFrom P start (xs ++ y ∷ []) → AllFrom P start xs
AllFrom-front P start [] y all = tt
AllFrom-front P start (x ∷ xs) y all = (all.0, AllFrom-front P (start ++ x ∷ []) xs y all.1)

AllFrom-last : {A : Type 0} (P : List A → A → Type 0) (start xs : List A) (y : A) → AllFrom P start (xs ++ y ∷ []) → P (start ++ xs) y
AllFrom-last {A = A} P start [] y all = subst (λ (t : List A). P t y) (sym (append-nil start)) all.0
AllFrom-last {A = A} P start (x ∷ xs) y all = subst (λ (t : List A). P t y) (append_assoc start (x ∷ []) xs) (AllFrom-last P (start ++ x ∷ []) xs y all.1)

all_front : {A : Type 0} (P : List A → A → Type 0) (xs : List A) (y : A) → AllAfter P (xs ++ y ∷ []) → AllAfter P xs
unfolding AllAfter
all_front P xs y all = AllFrom-front P [] xs y all

all_last : {A : Type 0} (P : List A → A → Type 0) (xs : List A) (y : A) → AllAfter P (xs ++ y ∷ []) → P xs y
unfolding AllAfter
all_last P xs y all = AllFrom-last P [] xs y all

-- ---- bytes

pub goes_too : {E X : Type 0} (R : Rules E X) (why : X) (p : E → Bool) (octets : List ℕ) (fs : List Frame) (rest : List ℕ) → Run R octets fs rest Going
    → list_any p (events R fs) ≡ false → Run (refusing R why p) octets fs rest Going
goes_too R why p octets fs rest r none = record { whole = r.whole; good = good_too R why p fs r.good none; ends = r.ends }

header_too : {E X : Type 0} (R : Rules E X) (why : X) (p : E → Bool) (fs : List Frame) (rest : List ℕ) (w : X) → WrongHeader R fs rest w
    → WrongHeader (refusing R why p) fs rest w
header_too R why p fs rest w h = record { fault = h.fault; code = h.code; whole = h.whole; fault_is = h.fault_is; code_is = h.code_is; why_is = h.why_is }

frame_too : {E X : Type 0} (R : Rules E X) (why : X) (p : E → Bool) (fs : List Frame) (rest : List ℕ) (w : X) → WrongFrame R fs rest w
    → WrongFrame (refusing R why p) fs rest w
frame_too R why p fs rest w h = record {
  frame = h.frame;
  more = h.more;
  parts = h.parts;
  sized = h.sized;
  let_in = h.let_in;
  refused = first_among (R.reasons fs h.frame) ((why, list_any p (R.tells fs h.frame)) ∷ []) w h.refused;
}

wrong_too : {E X : Type 0} (R : Rules E X) (why : X) (p : E → Bool) (fs : List Frame) (rest : List ℕ) (w : X)
    → WrongHeader R fs rest w ⊎ WrongFrame R fs rest w → WrongHeader (refusing R why p) fs rest w ⊎ WrongFrame (refusing R why p) fs rest w
wrong_too R why p fs rest w (inl h) = inl (header_too R why p fs rest w h)
wrong_too R why p fs rest w (inr h) = inr (frame_too R why p fs rest w h)

stops_too : {E X : Type 0} (R : Rules E X) (why : X) (p : E → Bool) (fs : List Frame) (rest : List ℕ) (w : X) → StopsAt R fs rest w
    → StopsAt (refusing R why p) fs rest w
unfolding frame_too
stops_too R why p fs rest w (inl h) = inl (header_too R why p fs rest w h.0, h.1)
stops_too R why p fs rest w (inr h) = inr (frame_too R why p fs rest w h.0, h.1)

-- what the rules find wrong is wrong, too, where nothing before it is
pub wrong_so : {E X : Type 0} (R : Rules E X) (why : X) (p : E → Bool) (octets : List ℕ) (fs : List Frame) (rest : List ℕ) (w : X) →
    Run R octets fs rest (Stopped w) → StopsAt R fs rest w → list_any p (events R fs) ≡ false → EndWrong (refusing R why p) octets w
wrong_so R why p octets fs rest w r stops none = record {
  frames = fs;
  rest = rest;
  run = record { whole = r.whole; good = good_too R why p fs r.good none; ends = (r.ends.0, wrong_too R why p fs rest w r.ends.1) };
  stops = stops_too R why p fs rest w stops;
}

-- what the rules take is wrong at the last frame, which tells what is wrong
pub wrong_last : {E X : Type 0} (R : Rules E X) (why : X) (p : E → Bool) (octets : List ℕ) (fs : List Frame) (f : Frame) →
    Run R octets (fs ++ f ∷ []) [] Going → list_any p (events R fs) ≡ false → list_any p (R.tells fs f) ≡ true → EndWrong (refusing R why p) octets why
wrong_last {E = E} {X = X} R why p octets fs f r none some =
    let fit : Fits R fs f = all_last (Fits R) fs f r.good in
    let parts : frame_octets f ≡ frame_octets f ++ [] = sym (append-nil (frame_octets f)) in
    let wrong : WrongFrame (refusing R why p) fs (frame_octets f) why = record {
      frame = f;
      more = [];
      parts = parts;
      sized = fit.sized;
      let_in = fit.let_in;
      refused = first_behind (R.reasons fs f) ((why, list_any p (R.tells fs f)) ∷ []) fit.accepted ∙ last_one why (list_any p (R.tells fs f)) some;
    } in
    record {
      frames = fs;
      rest = frame_octets f;
      run = record {
        whole = r.whole ∙ (append-nil (frames_octets (fs ++ f ∷ [])) ∙ frames_octets-push fs f);
        good = good_too R why p fs
            (all_front (Fits R) fs f r.good) none;
        ends = (fit.goes_on, inr wrong);
      };
      stops = inr (wrong, refl);
    }
