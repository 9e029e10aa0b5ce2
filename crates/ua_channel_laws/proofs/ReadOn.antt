-- A reading of more octets.
use Rattle.std.proofs.Common.{◌≡◌, ℕ, inl, List, [], ◌∷◌, ◌++◌, false, true, length, refl, sym, ◌∙◌, ap, arith, append_assoc, append-nil, length-append}
use Rattle.ua_frame.specs.declared.frame.Frame.{Frame}
use Rattle.ua_frame.specs.After.{AllFrom, AllAfter, each_from, each_after}
use Rattle.ua_frame.specs.Frames.{frame_octets, frames_octets}
use Rattle.ua_frame.specs.Run.{Rules, Fits, events, End, Going, Stopped, Over, Run}
use Rattle.ua_frame.proofs.Ends.{ends_stay}
use Rattle.ua_frame.proofs.Fronts.{length-frame_octets}
use Rattle.ua_frame.proofs.Streams.{events-push, run_frame}
use Rattle.ua_frame.proofs.Unique.{front_frame, front_none, one_frame, unique}
use Rattle.ua_channel.proofs.AskedLater.{frames_octets-append}

-- ---- lists one behind the other

pub all_append : {A : Type 0} (P : List A → A → Type 0) (start xs ys : List A) → AllFrom P start xs → AllFrom P (start ++ xs) ys → AllFrom P start (xs ++ ys)
all_append {A = A} P start [] ys h k = rw (← append-nil start) k
all_append {A = A} P start (x ∷ xs) ys h k =
    (h.0, all_append P (start ++ x ∷ []) xs ys h.1 (rw (append_assoc start (x ∷ []) xs) k))

pub all_behind : {A : Type 0} (P : List A → A → Type 0) (start xs ys : List A) → AllFrom P start (xs ++ ys) → AllFrom P (start ++ xs) ys
all_behind {A = A} P start [] ys h = rw (append-nil start) h
all_behind {A = A} P start (x ∷ xs) ys h = rw (← append_assoc start (x ∷ []) xs) (all_behind P (start ++ x ∷ []) xs ys h.1)

pub each_append : {A B : Type 0} (g : List A → A → List B) (start xs ys : List A) → each_from g start (xs ++ ys) ≡ each_from g start xs
    ++ each_from g (start ++ xs) ys
each_append {A = A} g start [] ys = ap (λ (t : List A). each_from g t ys) (sym (append-nil start))
each_append {A = A} {B = B} g start (x ∷ xs) ys =
    rw (each_append g (start ++ x ∷ []) xs ys) (sym (append_assoc (g start x) (each_from g (start ++ x ∷ []) xs) (each_from g ((start ++ x ∷ []) ++ xs) ys))
    ∙ rw (append_assoc start (x ∷ []) xs))

-- ---- more frames

-- the octets of one frame
pub one_octets : (f : Frame) → frames_octets (f ∷ []) ≡ frame_octets f
unfolding frames_octets
one_octets f = append-nil (frame_octets f)

pub more_octets : {E X : Type 0} (R : Rules E X) (octets : List ℕ) (fs gs : List Frame) → Run R octets fs [] Going
    → octets ++ frames_octets gs ≡ frames_octets (fs ++ gs) ++ []
more_octets R octets fs gs run =
    rw (run.whole ∙ append-nil (frames_octets fs)) (sym (frames_octets-append fs gs) ∙ sym (append-nil (frames_octets (fs ++ gs))))

-- frames that are taken behind others
pub run_on : {E X : Type 0} (R : Rules E X) (octets : List ℕ) (fs gs : List Frame) → Run R octets fs [] Going → AllFrom (Fits R) fs gs
    → R.over (fs ++ gs) ≡ false → Run R (octets ++ frames_octets gs) (fs ++ gs) [] Going
unfolding AllAfter
run_on R octets fs gs run fits goes_on = record {
  whole = more_octets R octets fs gs run;
  good = all_append (Fits R) [] fs gs run.good fits;
  ends = (goes_on, inl (omega arith));
}

-- one frame more
pub run_one : {E X : Type 0} (R : Rules E X) (octets : List ℕ) (fs : List Frame) (f : Frame) → Run R octets fs [] Going → Fits R fs f
    → R.over (fs ++ f ∷ []) ≡ false → Run R (octets ++ frame_octets f) (fs ++ f ∷ []) [] Going
run_one R octets fs f run fits goes_on = run_frame R octets [] (frame_octets f) fs f Going run refl fits.sized fits.let_in fits.accepted
    (goes_on, inl (omega arith))

-- the last frame
pub run_last : {E X : Type 0} (R : Rules E X) (octets : List ℕ) (fs : List Frame) (f : Frame) → Run R octets fs [] Going → Fits R fs f
    → R.over (fs ++ f ∷ []) ≡ true → Run R (octets ++ frame_octets f) (fs ++ f ∷ []) [] Over
run_last R octets fs f run fits over = run_frame R octets [] (frame_octets f) fs f Over run refl fits.sized fits.let_in fits.accepted over

-- no frames tell nothing
pub no_events : {E X : Type 0} (R : Rules E X) → events R [] ≡ []
unfolding each_after
no_events R = refl

-- what they tell
pub events_on : {E X : Type 0} (R : Rules E X) (fs gs : List Frame) → events R (fs ++ gs) ≡ events R fs ++ each_from R.tells fs gs
unfolding each_after
events_on R fs gs = each_append R.tells [] fs gs

-- ---- a beginning of the octets

none_left : {E X : Type 0} (R : Rules E X) (f : Frame) (fs : List Frame) (rest : List ℕ) → frames_octets (f ∷ fs) ++ rest ≡ frames_octets [] → ⊥
none_left R f fs rest e =
    omega (
      arith,
      ap length (sym (front_frame f fs rest) ∙ e),
      length-append (frame_octets f) (frames_octets fs ++ rest),
      length-frame_octets f,
      ap length (sym (append-nil (frames_octets [])) ∙ front_none []),
    )

same_head : (f g : Frame) (fs gs later : List Frame) → f ≡ g → gs ≡ fs ++ later → g ∷ gs ≡ f ∷ (fs ++ later)
same_head f g fs gs later p q = cc

front_frames : {E X : Type 0} (R : Rules E X) (start fs gs : List Frame) (rest : List ℕ) → AllFrom (Fits R) start fs → AllFrom (Fits R) start gs
    → frames_octets fs ++ rest ≡ frames_octets gs → (later : List Frame) × (gs ≡ fs ++ later)
front_frames R start [] gs rest p q e = (gs, refl)
front_frames R start (f ∷ fs) [] rest p q e = absurd (none_left R f fs rest e)
front_frames R start (f ∷ fs) (g ∷ gs) rest p q e =
    let parts : frame_octets f ++ (frames_octets fs ++ rest) ≡ frame_octets g ++ frames_octets gs =
    sym (front_frame f fs rest)
    ∙ (e ∙ (sym (append-nil (frames_octets (g ∷ gs))) ∙ (front_frame g gs [] ∙ rw (append-nil (frames_octets gs)))))
    in
    let one = one_frame f g (frames_octets fs ++ rest) (frames_octets gs) p.0.sized q.0.sized parts in
    let q' : AllFrom (Fits R) (start ++ f ∷ []) gs = rw one.0 q.1 in
    let more = front_frames R (start ++ f ∷ []) fs gs rest p.1 q' one.1 in
    (more.0, same_head f g fs gs more.0 one.0 more.1)

-- where the whole octets are good frames, those of a beginning are the first of them
pub begins_run : {E X : Type 0} (R : Rules E X) (octets more : List ℕ) (fs gs : List Frame) (rest : List ℕ) (end : End X) → Run R octets fs rest Going
    → Run R (octets ++ more) gs [] end → (later : List Frame) × (gs ≡ fs ++ later)
unfolding AllAfter
begins_run R octets more fs gs rest end r s =
    front_frames R [] fs gs (rest ++ more) r.good s.good
    (sym (append_assoc (frames_octets fs) rest more) ∙ (rw (sym r.whole) (s.whole ∙ append-nil (frames_octets gs))))

-- and what a beginning tells is the first of what the whole tells
pub begins_told : {E X : Type 0} (R : Rules E X) (octets more : List ℕ) (fs gs : List Frame) (rest : List ℕ) (end : End X) → Run R octets fs rest Going
    → Run R (octets ++ more) gs [] end → (later : List E) × (events R gs ≡ events R fs ++ later)
begins_told R octets more fs gs rest end r s =
    let b = begins_run R octets more fs gs rest end r s in
    (each_from R.tells fs b.0, ap (events R) b.1 ∙ events_on R fs b.0)

pub begins : {E X : Type 0} (R : Rules E X) (octets more : List ℕ) (fs gs : List Frame) (rest : List ℕ) (told all : List E) (end : End X)
    → Run R octets fs rest Going → events R fs ≡ told → Run R (octets ++ more) gs [] end → events R gs ≡ all
    → (later : List E) × (all ≡ told ++ later)
begins {E = E} R octets more fs gs rest told all end r is s are =
    let b = begins_told R octets more fs gs rest end r s in
    (b.0, sym are ∙ (b.1 ∙ rw is))

-- no beginning of octets that go on is over
pub not_over : {E X : Type 0} (R : Rules E X) (octets more : List ℕ) (fs gs : List Frame) (rest : List ℕ) → Run R octets fs rest Over
    → Run R (octets ++ more) gs [] Going → ⊥
not_over {X = X} R octets more fs gs rest r s =
    let ends : ◌≡◌ {A = End X} Over Going =
    (unique R (octets ++ more) fs gs (rest ++ more) [] Over Going (ends_stay R octets more fs rest Over (λ e. cc) r) s).ends in
    cc

-- no beginning is refused of octets that go on, or that end otherwise
pub never_refused : {E X : Type 0} (R : Rules E X) (octets more : List ℕ) (fs gs : List Frame) (rest : List ℕ) (why : X) (end : End X) → (end ≡ Stopped why → ⊥)
    → Run R octets fs rest (Stopped why) → Run R (octets ++ more) gs [] end → ⊥
never_refused R octets more fs gs rest why end other r s =
    other (sym (unique R (octets ++ more) fs gs (rest ++ more) [] (Stopped why) end (ends_stay R octets more fs rest (Stopped why) (λ e. cc) r) s).ends)

-- ---- one reading

pub same_frames : {E X : Type 0} (R : Rules E X) (octets : List ℕ) (fs gs : List Frame) (rest more : List ℕ) → Run R octets fs rest Going
    → Run R octets gs more Going → (fs ≡ gs) × (rest ≡ more)
same_frames R octets fs gs rest more r s =
    let same = unique R octets fs gs rest more Going Going r s in
    (same.frames, same.rests)

pub same_told : {E X : Type 0} (R : Rules E X) (octets : List ℕ) (fs gs : List Frame) (rest more : List ℕ) (told others : List E) → Run R octets fs rest Going
    → Run R octets gs more Going → events R fs ≡ told → events R gs ≡ others → told ≡ others
same_told R octets fs gs rest more told others r s is are = sym is ∙ (ap (events R) (same_frames R octets fs gs rest more r s).0 ∙ are)

-- what is told behind a frame that tells one thing
pub told_behind : {E X : Type 0} (R : Rules E X) (fs : List Frame) (f : Frame) (told : List E) (e : E) → events R fs ≡ told → R.tells fs f ≡ e ∷ []
    → events R (fs ++ f ∷ []) ≡ told ++ e ∷ []
told_behind {E = E} R fs f told e is tells = events-push R fs f ∙ (rw (tells, is))
