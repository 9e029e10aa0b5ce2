-- A stream stops at its first wrong frame.
use Rattle.std.proofs.Common.{◌≡◌, ℕ, ◌≤◌, ◌⊎◌, inl, inr, List, [], ◌∷◌, ◌++◌, false, Option, Some, None, option_map}
use Rattle.std.proofs.Common.{refl, sym, ◌∙◌, ap, subst, arith, append_assoc, append-nil, length, length-append}
use Rattle.std.specs.List.{AllByRecursion}
use Rattle.std.specs.Option.{option_and_then}
use Rattle.ua_wire.proofs.Readers.{some_is}
use Rattle.ua_builtin.specs.Reasons.{or_else}
use Rattle.ua_frame.specs.declared.fault.FrameFault.{FrameFault}
use Rattle.ua_frame.specs.declared.fault.FrameFault.TheVariants.{UnknownType, OutOfPlace, TooLarge, TooSmall, OutOfMemory, Closed}
use Rattle.ua_frame.specs.declared.frame.Frame.{Frame}
use Rattle.ua_frame.specs.declared.gate.Gate.{Gate}
use Rattle.ua_frame.specs.After.{AllFrom, AllAfter}
use Rattle.ua_frame.specs.FirstWrong.{frame_in, frames_in, header_refusal, header_why, first_refusal, PassesFrame, WrongNext, FirstFrom, FirstWrong}
use Rattle.ua_frame.specs.Frames.{frame_octets, frames_octets, header_fault, header_code, IsRawFrame, IsRest, Frames, joined_parts}
use Rattle.ua_frame.specs.Laws.{Stops}
use Rattle.ua_frame.specs.Run.{Rules, refusal, Fits, Stopped, WrongHeader, WrongFrame, EndsIn}
use Rattle.ua_frame.proofs.Fronts.{fault_front, fault-from_let_in}
use Rattle.ua_frame.proofs.RawFrames.{one_raw, no_raw_rest, joined-cons, joined-nil, raw_of-frame, frame_in-frame, frames_in-push, good_raw}
use Rattle.ua_frame.proofs.Readers.{of_header}
use Rattle.ua_frame.proofs.Unique.{front_frame, front_none}

-- ---- the first reason against octets that are a frame

first_by_header : {E X : Type 0} (R : Rules E X) (before : List Frame) (raw : List ℕ) (why : X) → header_why R before raw ≡ Some why
    → first_refusal R before raw ≡ Some why
first_by_header {X = X} R before raw why e = ap (λ (o : Option X). or_else o (option_and_then (refusal R before) (frame_in raw))) e

first_by_rules : {E X : Type 0} (R : Rules E X) (before : List Frame) (raw : List ℕ) (f : Frame) → header_fault (R.gate before) raw ≡ None
    → frame_in raw ≡ Some f → first_refusal R before raw ≡ refusal R before f
first_by_rules R before raw f good named =
    ap (λ (o : Option FrameFault). or_else (option_map R.of_header (option_and_then header_code o)) (option_and_then (refusal R before) (frame_in raw))) good
    ∙ ap (option_and_then (refusal R before)) named

code_of_header : (fault : FrameFault) → (fault ≡ OutOfMemory → ⊥) × (fault ≡ Closed → ⊥) → (code : ℕ) × (header_code fault ≡ Some code)
code_of_header UnknownType h = (0x807E_0000, refl)
code_of_header OutOfPlace h = (0x807E_0000, refl)
code_of_header TooLarge h = (0x8080_0000, refl)
code_of_header TooSmall h = (0x8007_0000, refl)
code_of_header OutOfMemory h = absurd (h.0 refl)
code_of_header Closed h = absurd (h.1 refl)

-- a header is good, or it is refused with a code
pub data IsJudged (gate : Gate) (octets : List ℕ) : Type 0 where
  Good : (good : header_fault gate octets ≡ None) → IsJudged gate octets
  Bad : (fault : FrameFault) (code : ℕ) (is : header_fault gate octets ≡ Some fault) (code_is : header_code fault ≡ Some code) → IsJudged gate octets

pub judged_by : (gate : Gate) (octets : List ℕ) (o : Option FrameFault) → header_fault gate octets ≡ o → IsJudged gate octets
judged_by gate octets None e = Good e
judged_by gate octets (Some fault) e = let c = code_of_header fault (of_header gate octets fault e) in Bad fault c.0 e c.1

refusal_of_bad : (gate : Gate) (octets : List ℕ) (fault : FrameFault) (code : ℕ) → header_fault gate octets ≡ Some fault → header_code fault ≡ Some code
    → header_refusal gate octets ≡ Some code
refusal_of_bad gate octets fault code e c = ap (option_and_then header_code) e ∙ c

-- why a header is refused that has something wrong
why_of_bad : {E X : Type 0} (R : Rules E X) (before : List Frame) (octets : List ℕ) (fault : FrameFault) (code : ℕ)
    → header_fault (R.gate before) octets ≡ Some fault → header_code fault ≡ Some code → header_why R before octets ≡ Some (R.of_header code)
why_of_bad R before octets fault code e c = ap (option_map R.of_header) (refusal_of_bad (R.gate before) octets fault code e c)

-- octets whose header is as wrong as one that is refused are refused alike
why_of_wrong : {E X : Type 0} (R : Rules E X) (before : List Frame) (octets raw : List ℕ) (why : X) (w : WrongHeader R before octets why)
    → header_fault (R.gate before) raw ≡ Some w.fault → header_why R before raw ≡ Some why
why_of_wrong {X = X} R before octets raw why w e = why_of_bad R before raw w.fault w.code e w.code_is ∙ ap (λ (x : X). Some x) w.why_is

bad_of_why : {E X : Type 0} (R : Rules E X) (before : List Frame) (octets : List ℕ) (why : X) → 8 ≤ length octets → header_why R before octets ≡ Some why
    → IsJudged (R.gate before) octets → WrongHeader R before octets why
bad_of_why {X = X} R before octets why whole e (Good good) = let c : ◌≡◌ {A = Option X} None (Some why) =
    sym (ap (λ (o : Option FrameFault). option_map R.of_header (option_and_then header_code o)) good) ∙ e in absurd cc
bad_of_why R before octets why whole e (Bad fault code is code_is) =
    record {
      fault = fault;
      code = code;
      whole = whole;
      fault_is = is;
      code_is = code_is;
      why_is = some_is (R.of_header code) why (sym (why_of_bad R before octets fault code is code_is) ∙ e);
    }

-- ---- from a reading that stops to the first wrong frame

here_first : {E X : Type 0} (R : Rules E X) (start frames : List (List ℕ)) (rest : List ℕ) (why : X) → R.over (frames_in start) ≡ false
    → WrongNext R start frames rest why → FirstFrom R start frames rest why
here_first R start frames rest why goes_on wrong = record {
  before = [];
  behind = frames;
  split = refl;
  good = tt;
  goes_on = ap (λ (t : List (List ℕ)). R.over (frames_in t)) (append-nil start) ∙ goes_on;
  wrong = subst (λ (t : List (List ℕ)). WrongNext R t frames rest why) (sym (append-nil start)) wrong;
}

later_first : {E X : Type 0} (R : Rules E X) (start : List (List ℕ)) (raw : List ℕ) (frames : List (List ℕ)) (rest : List ℕ) (why : X) → PassesFrame R start raw
    → FirstFrom R (start ++ raw ∷ []) frames rest why → FirstFrom R start (raw ∷ frames) rest why
later_first R start raw frames rest why passes f = record {
  before = raw ∷ f.before;
  behind = f.behind;
  split = ap (λ (t : List (List ℕ)). raw ∷ t) f.split;
  good = (passes, f.good);
  goes_on = subst (λ (t : List (List ℕ)). R.over (frames_in t) ≡ false) (append_assoc start (raw ∷ []) f.before) f.goes_on;
  wrong = subst (λ (t : List (List ℕ)). WrongNext R t f.behind rest why) (append_assoc start (raw ∷ []) f.before) f.wrong;
}

wrong_rest : {E X : Type 0} (R : Rules E X) (start : List (List ℕ)) (x rest : List ℕ) (why : X) → x ≡ rest → IsRest rest
    → (WrongHeader R (frames_in start) x why ⊎ WrongFrame R (frames_in start) x why) → WrongNext R start [] rest why
wrong_rest R start x rest why e partial (inl w) =
    subst (λ (t : List ℕ). WrongNext R start [] t why) e (w.whole, why_of_wrong R (frames_in start) x x why w w.fault_is)
wrong_rest R start x rest why e partial (inr w) =
    absurd (no_raw_rest (frame_octets w.frame) w.more (raw_of-frame w.frame w.sized) (subst IsRest (sym e ∙ w.parts) partial))

wrong_raw : {E X : Type 0} (R : Rules E X) (start : List (List ℕ)) (x raw t : List ℕ) (why : X) → x ≡ raw ++ t → IsRawFrame raw
    → (WrongHeader R (frames_in start) x why ⊎ WrongFrame R (frames_in start) x why) → first_refusal R (frames_in start) raw ≡ Some why
wrong_raw R start x raw t why e r (inl w) =
    let gate : Gate = R.gate (frames_in start) in
    first_by_header R (frames_in start) raw why
    (why_of_wrong R (frames_in start) x raw why w (sym (fault_front gate raw t r.header) ∙ (ap (header_fault gate) (sym e) ∙ w.fault_is)))
wrong_raw R start x raw t why e r (inr w) =
    let gate : Gate = R.gate (frames_in start) in
    let same : raw ≡ frame_octets w.frame = (one_raw raw (frame_octets w.frame) t w.more r (raw_of-frame w.frame w.sized) (sym e ∙ w.parts)).0 in
    first_by_rules R (frames_in start) raw w.frame (ap (header_fault gate) same ∙ fault-from_let_in gate w.frame w.sized w.let_in) (ap frame_in same
    ∙ frame_in-frame w.frame) ∙ w.refused

stops_from : {E X : Type 0} (R : Rules E X) (start : List (List ℕ)) (fs : List Frame) (x : List ℕ) (why : X) (frames : List (List ℕ)) (rest : List ℕ)
    → frames_octets fs ++ x ≡ joined_parts frames ++ rest → AllFrom (Fits R) (frames_in start) fs
    → EndsIn R (frames_in start ++ fs) x (Stopped why) → AllByRecursion IsRawFrame frames → IsRest rest → FirstFrom R start frames rest why
stops_from R start [] x why [] rest e good ends each partial =
    let at_end : EndsIn R (frames_in start) x (Stopped why) = subst (λ (t : List Frame). EndsIn R t x (Stopped why)) (append-nil (frames_in start)) ends in
    here_first R start [] rest why at_end.0 (wrong_rest R start x rest why (sym (front_none x) ∙ (e ∙ joined-nil rest)) partial at_end.1)
stops_from R start [] x why (raw ∷ frames) rest e good ends each partial =
    let at_end : EndsIn R (frames_in start) x (Stopped why) = subst (λ (t : List Frame). EndsIn R t x (Stopped why)) (append-nil (frames_in start)) ends in
    here_first R start (raw ∷ frames) rest why at_end.0
    (wrong_raw R start x raw (joined_parts frames ++ rest) why (sym (front_none x) ∙ (e ∙ joined-cons raw frames rest)) each.0 at_end.1)
stops_from R start (f ∷ fs) x why [] rest e good ends each partial =
    absurd (no_raw_rest (frame_octets f) (frames_octets fs ++ x) (raw_of-frame f good.0.sized)
    (subst IsRest (sym (joined-nil rest) ∙ (sym e ∙ front_frame f fs x)) partial))
stops_from R start (f ∷ fs) x why (raw ∷ frames) rest e good ends each partial =
    let gate : Gate = R.gate (frames_in start) in
    let one = one_raw raw (frame_octets f) (joined_parts frames ++ rest) (frames_octets fs ++ x) each.0 (raw_of-frame f good.0.sized)
    (sym (joined-cons raw frames rest) ∙ (sym e ∙ front_frame f fs x)) in
    let named : frame_in raw ≡ Some f = ap frame_in one.0 ∙ frame_in-frame f in
    let fault : header_fault gate raw ≡ None = ap (header_fault gate) one.0 ∙ fault-from_let_in gate f good.0.sized good.0.let_in in
    let passes : PassesFrame R start raw = record {
      goes_on = good.0.goes_on;
      accepted = first_by_rules R (frames_in start) raw f fault named
          ∙ good.0.accepted;
    } in
    let pushed : frames_in (start ++ raw ∷ []) ≡ frames_in start ++ f ∷ [] = frames_in-push start raw f named in
    let good' : AllFrom (Fits R) (frames_in (start ++ raw ∷ [])) fs = subst (λ (t : List Frame). AllFrom (Fits R) t fs) (sym pushed) good.1 in
    let ends' : EndsIn R (frames_in (start ++ raw ∷ []) ++ fs) x (Stopped why) = subst (λ (t : List Frame). EndsIn R t x (Stopped why))
    (sym (append_assoc (frames_in start) (f ∷ []) fs) ∙ ap (λ (t : List Frame). t ++ fs) (sym pushed)) ends in
    later_first R start raw frames rest why passes (stops_from R (start ++ raw ∷ []) fs x why frames rest (sym one.1) good' ends' each.1 partial)

frames_in-nil : frames_in [] ≡ []
unfolding frames_in
frames_in-nil = refl

pub first_of_stop : {E X : Type 0} (R : Rules E X) (octets : List ℕ) (frames : List (List ℕ)) (rest : List ℕ) (why : X) → Frames octets frames rest
    → Stops R octets why → FirstWrong R frames rest why
unfolding AllAfter
first_of_stop R octets frames rest why framed s =
    let good : AllFrom (Fits R) (frames_in []) s.frames = subst (λ (t : List Frame). AllFrom (Fits R) t s.frames) (sym frames_in-nil) s.run.good in
    let ends : EndsIn R (frames_in [] ++ s.frames) s.rest (Stopped why) = subst (λ (t : List Frame). EndsIn R (t ++ s.frames) s.rest (Stopped why))
    (sym frames_in-nil) s.run.ends in
    stops_from R [] s.frames s.rest why frames rest (sym s.run.whole ∙ framed.whole) good ends framed.each framed.partial

-- ---- and back

-- behind those frames, some good frames and then a wrong one
pub record StopsFrom {E X : Type 0} (R : Rules E X) (start : List (List ℕ)) (octets : List ℕ) (why : X) : Type 0 where
  pub frames : List Frame
  pub rest : List ℕ
  pub whole : octets ≡ frames_octets frames ++ rest
  pub good : AllFrom (Fits R) (frames_in start) frames
  pub ends : EndsIn R (frames_in start ++ frames) rest (Stopped why)

here_stops : {E X : Type 0} (R : Rules E X) (start : List (List ℕ)) (octets : List ℕ) (why : X) → R.over (frames_in start) ≡ false
    → (WrongHeader R (frames_in start) octets why ⊎ WrongFrame R (frames_in start) octets why) → StopsFrom R start octets why
here_stops R start octets why goes_on wrong = record {
  frames = [];
  rest = octets;
  whole = sym (front_none octets);
  good = tt;
  ends = subst (λ (t : List Frame). EndsIn R t octets (Stopped why)) (sym (append-nil (frames_in start))) (goes_on, wrong);
}

later_stops : {E X : Type 0} (R : Rules E X) (start : List (List ℕ)) (raw : List ℕ) (f : Frame) (octets : List ℕ) (why : X) → raw ≡ frame_octets f
    → Fits R (frames_in start) f → StopsFrom R (start ++ raw ∷ []) octets why → StopsFrom R start (raw ++ octets) why
later_stops R start raw f octets why same fits s =
    let pushed : frames_in (start ++ raw ∷ []) ≡ frames_in start ++ f ∷ [] = frames_in-push start raw f (ap frame_in same ∙ frame_in-frame f) in
    record {
      frames = f ∷ s.frames;
      rest = s.rest;
      whole = ap (λ (t : List ℕ). raw ++ t) s.whole ∙ (ap (λ (t : List ℕ). t ++ (frames_octets s.frames ++ s.rest)) same ∙ sym (front_frame f s.frames s.rest));
      good = (fits, subst (λ (t : List Frame). AllFrom (Fits R) t s.frames) pushed s.good);
      ends = subst (λ (t : List Frame). EndsIn R t s.rest (Stopped why)) (ap (λ (t : List Frame). t ++ s.frames) pushed
          ∙ append_assoc (frames_in start) (f ∷ []) s.frames) s.ends;
    }

wrong_of_raw : {E X : Type 0} (R : Rules E X) (before : List Frame) (raw t : List ℕ) (why : X) → IsRawFrame raw → first_refusal R before raw ≡ Some why
    → IsJudged (R.gate before) raw → (WrongHeader R before (raw ++ t) why ⊎ WrongFrame R before (raw ++ t) why)
wrong_of_raw R before raw t why r first (Bad fault code is code_is) =
    let same : R.of_header code ≡ why =
    some_is (R.of_header code) why (sym (first_by_header R before raw (R.of_header code) (why_of_bad R before raw fault code is code_is)) ∙ first) in
    inl (record {
      fault = fault;
      code = code;
      whole = omega (arith, r.header, length-append raw t);
      fault_is = fault_front (R.gate before) raw t r.header
          ∙ is;
      code_is = code_is;
      why_is = same;
    })
wrong_of_raw R before raw t why r first (Good good) =
    let g = good_raw (R.gate before) raw r good in
    inr (record {
      frame = g.frame;
      more = t;
      parts = ap (λ (x : List ℕ). x ++ t) g.octets;
      sized = g.sized;
      let_in = g.let_in;
      refused = sym (first_by_rules R before raw g.frame good (ap frame_in g.octets ∙ frame_in-frame g.frame)) ∙ first;
    })

fits_of_raw : {E X : Type 0} (R : Rules E X) (start : List (List ℕ)) (raw : List ℕ) → IsRawFrame raw → PassesFrame R start raw
    → IsJudged (R.gate (frames_in start)) raw → (f : Frame) × (raw ≡ frame_octets f) × Fits R (frames_in start) f
fits_of_raw {X = X} R start raw r passes (Bad fault code is code_is) =
    let c : ◌≡◌ {A = Option X} (Some (R.of_header code)) None =
    sym (first_by_header R (frames_in start) raw (R.of_header code) (why_of_bad R (frames_in start) raw fault code is code_is)) ∙ passes.accepted in
    absurd cc
fits_of_raw R start raw r passes (Good good) =
    let g = good_raw (R.gate (frames_in start)) raw r good in
    let accepted : refusal R (frames_in start) g.frame ≡ None =
    sym (first_by_rules R (frames_in start) raw g.frame good (ap frame_in g.octets ∙ frame_in-frame g.frame)) ∙ passes.accepted in
    (g.frame, g.octets, record { goes_on = passes.goes_on; sized = g.sized; let_in = g.let_in; accepted = accepted })

first_from : {E X : Type 0} (R : Rules E X) (start before behind : List (List ℕ)) (rest : List ℕ) (why : X) → AllFrom (PassesFrame R) start before
    → R.over (frames_in (start ++ before)) ≡ false → WrongNext R (start ++ before) behind rest why
    → AllByRecursion IsRawFrame (before ++ behind) → StopsFrom R start (joined_parts (before ++ behind) ++ rest) why
first_from R start [] [] rest why good goes_on wrong each =
    let goes_on' : R.over (frames_in start) ≡ false = ap (λ (t : List (List ℕ)). R.over (frames_in t)) (sym (append-nil start)) ∙ goes_on in
    let wrong' : WrongNext R start [] rest why = subst (λ (t : List (List ℕ)). WrongNext R t [] rest why) (append-nil start) wrong in
    let gate : Gate = R.gate (frames_in start) in
    let bad = bad_of_why R (frames_in start) rest why wrong'.0 wrong'.1 (judged_by gate rest (header_fault gate rest) refl) in
    subst (λ (t : List ℕ). StopsFrom R start t why) (sym (joined-nil rest))
    (here_stops R start rest why goes_on' (inl bad))
first_from R start [] (raw ∷ behind) rest why good goes_on wrong each =
    let goes_on' : R.over (frames_in start) ≡ false = ap (λ (t : List (List ℕ)). R.over (frames_in t)) (sym (append-nil start)) ∙ goes_on in
    let wrong' : WrongNext R start (raw ∷ behind) rest why = subst (λ (t : List (List ℕ)). WrongNext R t (raw ∷ behind) rest why) (append-nil start) wrong in
    let gate : Gate = R.gate (frames_in start) in
    subst (λ (t : List ℕ). StopsFrom R start t why) (sym (joined-cons raw behind rest))
    (here_stops R start (raw ++ (joined_parts behind ++ rest)) why goes_on'
    (wrong_of_raw R (frames_in start) raw (joined_parts behind ++ rest) why each.0 wrong' (judged_by gate raw (header_fault gate raw) refl)))
first_from R start (raw ∷ before) behind rest why good goes_on wrong each =
    let gate : Gate = R.gate (frames_in start) in
    let fits = fits_of_raw R start raw each.0 good.0 (judged_by gate raw (header_fault gate raw) refl) in
    let assoc : start ++ raw ∷ before ≡ (start ++ raw ∷ []) ++ before = sym (append_assoc start (raw ∷ []) before) in
    let goes_on' : R.over (frames_in ((start ++ raw ∷ []) ++ before)) ≡ false = subst (λ (t : List (List ℕ)). R.over (frames_in t) ≡ false) assoc goes_on in
    let wrong' : WrongNext R ((start ++ raw ∷ []) ++ before) behind rest why = subst (λ (t : List (List ℕ)). WrongNext R t behind rest why) assoc wrong in
    subst (λ (t : List ℕ). StopsFrom R start t why) (sym (joined-cons raw (before ++ behind) rest))
    (later_stops R start raw fits.0 (joined_parts (before ++ behind) ++ rest) why fits.1 fits.2
    (first_from R (start ++ raw ∷ []) before behind rest why good.1 goes_on' wrong' each.1))

pub stop_of_first : {E X : Type 0} (R : Rules E X) (octets : List ℕ) (frames : List (List ℕ)) (rest : List ℕ) (why : X) → Frames octets frames rest
    → FirstWrong R frames rest why → Stops R octets why
unfolding AllAfter
stop_of_first R octets frames rest why framed w =
    let s = first_from R [] w.before w.behind rest why w.good w.goes_on w.wrong (subst (λ (t : List (List ℕ)). AllByRecursion IsRawFrame t) w.split framed.each)
    in
    record {
      frames = s.frames;
      rest = s.rest;
      run = record {
        whole = framed.whole ∙ (ap (λ (t : List (List ℕ)). joined_parts t ++ rest) w.split ∙ s.whole);
        good = subst (λ (t : List Frame). AllFrom (Fits R) t s.frames) frames_in-nil s.good;
        ends = subst (λ (t : List Frame). EndsIn R (t ++ s.frames) s.rest (Stopped why)) frames_in-nil s.ends;
      };
    }
