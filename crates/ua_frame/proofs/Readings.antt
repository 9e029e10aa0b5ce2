-- Each stream has a reading.
use Rattle.std.proofs.Common.{◌≡◌, ℕ, zero, suc, ◌<◌, ◌≤◌, ◌⊎◌, inl, inr, List, [], ◌∷◌, ◌++◌, Bool, false, true, Option, Some, None, length}
use Rattle.std.proofs.Common.{take, drop, refl, sym, ◌∙◌, ap, subst, arith, append_assoc, append-nil, length-append, take-append-drop}
use Rattle.std.proofs.lemmas.Bool.{cases_lt}
use Rattle.std.proofs.lemmas.List.{length-take-le}
use Rattle.ua_frame.specs.declared.frame.Frame.{Frame}
use Rattle.ua_frame.specs.After.{AllFrom, AllAfter}
use Rattle.ua_frame.specs.Frames.{frame_octets, frames_octets, IsSized, LetsIn, size_of, header_fault, IsRawFrame, IsRest}
use Rattle.ua_frame.specs.Laws.{Reading, Framing}
use Rattle.ua_frame.specs.Run.{Rules, refusal, Fits, End, Going, Stopped, Over, EndsIn}
use Rattle.ua_frame.proofs.FirstWrongs.{IsJudged, Good, Bad, judged_by}
use Rattle.ua_frame.proofs.Fronts.{size_front, fault_front, length-frame_octets}
use Rattle.ua_frame.proofs.Parts.{good_header}
use Rattle.ua_frame.proofs.RawFrames.{good_raw, joined-cons, joined-nil}
use Rattle.ua_frame.proofs.Unique.{front_frame, front_none}

-- ---- the first octets, as many as the header names

raw_front : (o : List ℕ) → 8 ≤ size_of o → size_of o ≤ length o → IsRawFrame (take (size_of o) o)
raw_front o least enough =
    let len : length (take (size_of o) o) ≡ size_of o = length-take-le (size_of o) o enough in
    record {
      header = omega (arith, len);
      size = sym (size_front (take (size_of o) o) (drop (size_of o) o) (omega (arith, len))) ∙ (ap size_of (take-append-drop (size_of o) o) ∙ sym len);
    }

parts_of : (o : List ℕ) → o ≡ take (size_of o) o ++ drop (size_of o) o
parts_of o = sym (take-append-drop (size_of o) o)

-- ---- by rules

-- how octets go on behind those frames
pub record ReadFrom {E X : Type 0} (R : Rules E X) (start : List Frame) (o : List ℕ) : Type 0 where
  pub frames : List Frame
  pub rest : List ℕ
  pub end : End X
  pub whole : o ≡ frames_octets frames ++ rest
  pub good : AllFrom (Fits R) start frames
  pub ends : EndsIn R (start ++ frames) rest end

ends_here : {E X : Type 0} (R : Rules E X) (start : List Frame) (o : List ℕ) (end : End X) → EndsIn R start o end → ReadFrom R start o
ends_here R start o end e = record {
  frames = [];
  rest = o;
  end = end;
  whole = sym (front_none o);
  good = tt;
  ends = subst (λ (t : List Frame). EndsIn R t o end) (sym (append-nil start)) e;
}

module _ {E X : Type 0} (R : Rules E X) (bound : ℕ) (rec : (start : List Frame) (o : List ℕ) → length o < bound → ReadFrom R start o) (start : List Frame)
    (o : List ℕ) (below : length o < suc bound) where
  by_frame : R.over start ≡ false → (f : Frame) (rest : List ℕ) → o ≡ frame_octets f ++ rest → IsSized f → LetsIn (R.gate start) f → (r : Option X)
      → refusal R start f ≡ r → ReadFrom R start o
  by_frame goes_on f rest parts sized let_in (Some why) e =
      ends_here R start o (Stopped why) (goes_on, inr (record { frame = f; more = rest; parts = parts; sized = sized; let_in = let_in; refused = e }))
  by_frame goes_on f rest parts sized let_in None e =
      let s = rec (start ++ f ∷ []) rest (omega (arith, below, ap length parts, length-append (frame_octets f) rest, length-frame_octets f)) in
      record {
        frames = f ∷ s.frames;
        rest = s.rest;
        end = s.end;
        whole = parts ∙ (ap (λ (t : List ℕ). frame_octets f ++ t) s.whole ∙ sym (front_frame f s.frames s.rest));
        good = (record { goes_on = goes_on; sized = sized; let_in = let_in; accepted = e }, s.good);
        ends = subst (λ (t : List Frame). EndsIn R t s.rest s.end) (append_assoc start (f ∷ []) s.frames) s.ends;
      }

  by_size : R.over start ≡ false → header_fault (R.gate start) o ≡ None → ((length o < size_of o) ⊎ (size_of o ≤ length o)) → ReadFrom R start o
  by_size goes_on good (inl less) = ends_here R start o Going (goes_on, inr (good, less))
  by_size goes_on good (inr enough) =
      let least = (good_header (R.gate start) o good).1 in
      let raw : List ℕ = take (size_of o) o in
      let is_raw : IsRawFrame raw = raw_front o (omega (arith, least)) enough in
      let fault : header_fault (R.gate start) raw ≡ None = sym (fault_front (R.gate start) raw (drop (size_of o) o) is_raw.header)
      ∙ (ap (header_fault (R.gate start)) (sym (parts_of o)) ∙ good) in
      let g = good_raw (R.gate start) raw is_raw fault in
      by_frame goes_on g.frame (drop (size_of o) o) (parts_of o ∙ ap (λ (t : List ℕ). t ++ drop (size_of o) o) g.octets) g.sized g.let_in
      (refusal R start g.frame) refl

  by_header : R.over start ≡ false → 8 ≤ length o → IsJudged (R.gate start) o → ReadFrom R start o
  by_header goes_on whole (Good good) = by_size goes_on good (cases_lt (length o) (size_of o))
  by_header goes_on whole (Bad fault code is code_is) =
      ends_here R start o (Stopped (R.of_header code))
      (goes_on, inl (record { fault = fault; code = code; whole = whole; fault_is = is; code_is = code_is; why_is = refl }))

  by_length : R.over start ≡ false → ((length o < 8) ⊎ (8 ≤ length o)) → ReadFrom R start o
  by_length goes_on (inl short) = ends_here R start o Going (goes_on, inl short)
  by_length goes_on (inr whole) = by_header goes_on whole (judged_by (R.gate start) o (header_fault (R.gate start) o) refl)

  pub by_over : (b : Bool) → R.over start ≡ b → ReadFrom R start o
  by_over true e = ends_here R start o Over e
  by_over false e = by_length e (cases_lt (length o) 8)

read_from : {E X : Type 0} (R : Rules E X) (bound : ℕ) (start : List Frame) (o : List ℕ) → length o < bound → ReadFrom R start o
read_from R zero start o below = absurd (omega arith)
read_from R (suc bound) start o below = by_over R bound (read_from R bound) start o below (R.over start) refl

-- each stream has a reading
pub reading : {E X : Type 0} (R : Rules E X) (o : List ℕ) → Reading R o
unfolding AllAfter
reading R o =
    let s = read_from R (suc (length o)) [] o (omega arith) in
    record { frames = s.frames; rest = s.rest; end = s.end; run = record { whole = s.whole; good = s.good; ends = s.ends } }

-- ---- by sizes alone

frame_behind : (o a : List ℕ) (rest : List ℕ) → o ≡ a ++ rest → IsRawFrame a → Framing rest → Framing o
frame_behind o a rest parts r s = record {
  frames = a ∷ s.frames;
  rest = s.rest;
  framed = record {
    whole = parts ∙ (ap (λ (t : List ℕ). a ++ t) s.framed.whole ∙ sym (joined-cons a s.frames s.rest));
    each = (r, s.framed.each);
    partial = s.framed.partial;
  };
}

nothing_framed : (o : List ℕ) → IsRest o → Framing o
nothing_framed o r = record { frames = []; rest = o; framed = record { whole = sym (joined-nil o); each = tt; partial = r } }

module _ (bound : ℕ) (rec : (o : List ℕ) → length o < bound → Framing o) (o : List ℕ) (below : length o < suc bound) where
  framed_by_size : 8 ≤ size_of o → ((length o < size_of o) ⊎ (size_of o ≤ length o)) → Framing o
  framed_by_size least (inl less) = nothing_framed o (inr (inr less))
  framed_by_size least (inr enough) =
      let is_raw = raw_front o least enough in
      frame_behind o (take (size_of o) o) (drop (size_of o) o) (parts_of o) is_raw
      (rec (drop (size_of o) o) (omega (arith, below, ap length (parts_of o), length-append (take (size_of o) o) (drop (size_of o) o), is_raw.header)))

  framed_by_least : ((size_of o < 8) ⊎ (8 ≤ size_of o)) → Framing o
  framed_by_least (inl small) = nothing_framed o (inr (inl small))
  framed_by_least (inr least) = framed_by_size least (cases_lt (length o) (size_of o))

  pub framed_by_length : ((length o < 8) ⊎ (8 ≤ length o)) → Framing o
  framed_by_length (inl short) = nothing_framed o (inl short)
  framed_by_length (inr whole) = framed_by_least (cases_lt (size_of o) 8)

framing_below : (bound : ℕ) (o : List ℕ) → length o < bound → Framing o
framing_below zero o below = absurd (omega arith)
framing_below (suc bound) o below = framed_by_length bound (framing_below bound) o below (cases_lt (length o) 8)

-- any octets are frames and a rest
pub framing : (o : List ℕ) → Framing o
framing o = framing_below (suc (length o)) o (omega arith)
