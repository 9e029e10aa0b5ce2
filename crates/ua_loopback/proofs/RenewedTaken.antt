-- What was taken where the frame of one answer is told, and nothing that is told before it is like it.
use Rattle.std.proofs.Common.{◌≡◌, ℕ, Bool, true, false, ◌||◌, List, [], ◌∷◌, ◌++◌, length, sym, ◌∙◌, ap, subst, arith, append-nil, append_assoc, length-append}
use Rattle.std.specs.List.{list_any}
use Rattle.std.proofs.lemmas.List.{append_cancel_left}
use Rattle.ua_frame.specs.declared.frame.Frame.{Frame}
use Rattle.ua_frame.specs.After.{AllAfter, AllFrom, each_from}
use Rattle.ua_frame.specs.Frames.{IsSized, frame_octets, frames_octets}
use Rattle.ua_frame.specs.Run.{Fits, Going, Rules, Run, events}
use Rattle.ua_frame.proofs.Unique.{front_frame, front_none, one_frame}
use Rattle.ua_channel.proofs.AskedLater.{frames_octets-append}
use Rattle.ua_channel_laws.proofs.ReadOn.{begins_run, events_on, told_behind}
use Rattle.ua_channel_laws.proofs.Lists.{split_last}

-- ---- lists

true_not_false : true ≡ false → ⊥
true_not_false e = cc

-- ---- frames

module _ {E X : Type 0} (R : Rules E X) where
  -- octets are whole frames, the last of which tells one thing, and those before it this
  pub record TellsLast (octets : List ℕ) (told : List E) (last : E) : Type 0 where
    pub frames : List Frame
    pub frame : Frame
    pub run : Run R octets (frames ++ frame ∷ []) [] Going
    pub told_is : events R frames ≡ told
    pub tells : R.tells frames frame ≡ last ∷ []

  sized_behind : (start fs gs : List Frame) (g : Frame) → AllFrom (Fits R) start (fs ++ (g ∷ gs)) → IsSized g
  sized_behind start [] gs g h = h.0.sized
  sized_behind start (f ∷ fs) gs g h = sized_behind (start ++ f ∷ []) fs gs g h.1

  -- a frame behind these is of a size that a header can name
  sized_in : (octets : List ℕ) (all fs gs : List Frame) (g : Frame) → Run R octets all [] Going → all ≡ fs ++ (g ∷ gs) → IsSized g
  unfolding AllAfter
  sized_in octets all fs gs g r e = sized_behind [] fs gs g (subst (λ (hs : List Frame). AllFrom (Fits R) [] hs) e r.good)

  -- the octets of frames behind others
  octets_behind : (octets more : List ℕ) (all fs gs : List Frame) → Run R octets fs [] Going → Run R (octets ++ more) all [] Going → all ≡ fs ++ gs
      → more ≡ frames_octets gs
  octets_behind octets more all fs gs r s e =
      append_cancel_left octets more (frames_octets gs)
      (s.whole
      ∙ (append-nil (frames_octets all)
      ∙ (ap frames_octets e
      ∙ (frames_octets-append fs gs ∙ ap (λ (o : List ℕ). o ++ frames_octets gs) (sym (append-nil (frames_octets fs)) ∙ sym r.whole)))))

  module _ (octets : List ℕ) (fs : List Frame) (told : List E) (f : Frame) (e : E) (r : Run R octets fs [] Going) (is : events R fs ≡ told) (sized : IsSized f)
      (gs : List Frame) (q : Run R (octets ++ frame_octets f) gs [] Going) (tells : events R gs ≡ told ++ e ∷ []) (test : E → Bool) (wanted : test e ≡ true)
      (taken : List ℕ) (heard : List E) (last : E) (t : TellsLast (octets ++ taken) (told ++ heard) last) (none : list_any test heard ≡ false) where
    abbrev all : List Frame
    all = t.frames ++ t.frame ∷ []

    all_told : events R all ≡ (told ++ heard) ++ last ∷ []
    all_told = told_behind R t.frames t.frame (told ++ heard) last t.told_is t.tells

    -- something was taken
    never_none : all ≡ fs ++ [] → ⊥
    never_none e =
        let none : (told ++ heard) ++ last ∷ [] ≡ told = sym all_told ∙ (ap (events R) (e ∙ append-nil fs) ∙ is) in
        omega (arith, ap length none, length-append (told ++ heard) (last ∷ []), length-append told heard)

    -- nothing was heard before it that is like it
    never_before : (later : List E) → heard ≡ e ∷ later → ⊥
    never_before later same = true_not_false (sym (ap (λ (b : Bool). b || list_any test later) wanted) ∙ (sym (ap (list_any test) same) ∙ none))

    -- and nothing stands behind the answer
    no_more : (more : List Frame) → all ≡ gs ++ more → frames_octets more ≡ []
    no_more [] e = sym (append-nil (frames_octets [])) ∙ front_none []
    no_more (g ∷ more) p =
        let middle = split_last t.frames gs more t.frame g p in
        let later : List E = each_from R.tells gs middle.0 in
        absurd (never_before later (append_cancel_left told heard (e ∷ later)
        (sym t.told_is ∙ (ap (events R) middle.1 ∙ (events_on R gs middle.0 ∙ (ap (λ (es : List E). es ++ later) tells ∙ append_assoc told (e ∷ []) later))))))

    -- where what was taken and the answer begin the same octets, just the answer was taken
    pub just_answer : (a d : List ℕ) → taken ++ a ≡ frame_octets f ++ d → taken ≡ frame_octets f
    just_answer a d parts = by later.0 later.1
      where
        later : (hs : List Frame) × (all ≡ fs ++ hs)
        later = begins_run R octets taken fs all [] Going r t.run

        by : (hs : List Frame) → all ≡ fs ++ hs → taken ≡ frame_octets f
        by [] e = absurd (never_none e)
        by (h ∷ hs) e =
            let whole : taken ≡ frame_octets h ++ frames_octets hs =
            octets_behind octets taken all fs (h ∷ hs) r t.run e
            ∙ (sym (append-nil (frames_octets (h ∷ hs))) ∙ (front_frame h hs [] ∙ ap (λ (o : List ℕ). frame_octets h ++ o) (append-nil (frames_octets hs))))
            in
            let one = one_frame h f (frames_octets hs ++ a) d (sized_in (octets ++ taken) all fs hs h t.run e) sized
            (sym (append_assoc (frame_octets h) (frames_octets hs) a) ∙ (ap (λ (o : List ℕ). o ++ a) (sym whole) ∙ parts)) in
            let split : taken ≡ frame_octets f ++ frames_octets hs = whole ∙ ap (λ (g : Frame). frame_octets g ++ frames_octets hs) one.0 in
            let run : Run R ((octets ++ frame_octets f) ++ frames_octets hs) all [] Going =
            subst (λ (o : List ℕ). Run R o all [] Going) (ap (λ (o : List ℕ). octets ++ o) split
            ∙ sym (append_assoc octets (frame_octets f) (frames_octets hs))) t.run in
            let more = begins_run R (octets ++ frame_octets f) (frames_octets hs) gs all [] Going q run in
            let nothing : frames_octets hs ≡ [] = octets_behind (octets ++ frame_octets f) (frames_octets hs) all gs more.0 q run more.1
            ∙ no_more more.0 more.1 in
            split ∙ (ap (λ (o : List ℕ). frame_octets f ++ o) nothing ∙ append-nil (frame_octets f))
