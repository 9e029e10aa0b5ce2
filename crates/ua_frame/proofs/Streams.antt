-- How a stream goes on: by a frame, by octets that are no frame yet, by a refusal.
use Rattle.std.proofs.Common.{◌≡◌, ℕ, ◌≤◌, inl, inr, List, [], ◌∷◌, ◌++◌, false, Some, None, length, take}
use Rattle.std.proofs.Common.{drop, refl, sym, ◌∙◌, ap, arith, append_assoc, append-nil, take-append-drop}
use Rattle.std.proofs.lemmas.List.{flat_map_more}
use Rattle.ua_frame.specs.declared.fault.FrameFault.{FrameFault}
use Rattle.ua_frame.specs.declared.frame.Frame.{Frame}
use Rattle.ua_frame.proofs.Afters.{AllAfter-push, AllAfter-nil, each_after-push}
use Rattle.ua_frame.specs.Frames.{frame_octets, frames_octets, IsSized, LetsIn, header_fault, header_code, IsPartial}
use Rattle.ua_frame.specs.Run.{Rules, refusal, Fits, events, End, Going, Stopped, EndsIn, Run}

pub frames_octets-push : (fs : List Frame) (f : Frame) → frames_octets (fs ++ f ∷ []) ≡ frames_octets fs ++ frame_octets f
unfolding frames_octets
frames_octets-push fs f = sym (flat_map_more frame_octets [] fs f)

frames_octets-nil : frames_octets [] ≡ []
unfolding frames_octets
frames_octets-nil = refl

-- nothing yet
pub run_nil : {E X : Type 0} (R : Rules E X) → R.over [] ≡ false → Run R [] [] [] Going
run_nil R goes_on = record {
  whole = ap (λ (t : List ℕ). t ++ []) (sym frames_octets-nil);
  good = AllAfter-nil (Fits R);
  ends = (goes_on, inl (omega arith));
}

-- one frame more
pub run_frame : {E X : Type 0} (R : Rules E X) (o held t : List ℕ) (fs : List Frame) (f : Frame) (end : End X) → Run R o fs held Going
    → held ++ t ≡ frame_octets f → IsSized f → LetsIn (R.gate fs) f → refusal R fs f ≡ None → EndsIn R (fs ++ f ∷ []) [] end
    → Run R (o ++ t) (fs ++ f ∷ []) [] end
run_frame R o held t fs f end r octets sized let_in accepted ends = record {
  whole =
      ap (λ (z : List ℕ). z ++ t) r.whole
      ∙ (append_assoc (frames_octets fs) held t
      ∙ (ap (λ (z : List ℕ). frames_octets fs ++ z) octets
      ∙ (sym (frames_octets-push fs f) ∙ sym (append-nil (frames_octets (fs ++ f ∷ []))))));
  good = AllAfter-push (Fits R) fs f r.good (record { goes_on = r.ends.0; sized = sized; let_in = let_in; accepted = accepted });
  ends = ends;
}

-- what is told, with one frame more
pub events-push : {E X : Type 0} (R : Rules E X) (fs : List Frame) (f : Frame) → events R (fs ++ f ∷ []) ≡ events R fs ++ R.tells fs f
events-push R fs f = each_after-push R.tells fs f

-- octets that end no frame
pub run_part : {E X : Type 0} (R : Rules E X) (o held piece : List ℕ) (fs : List Frame) → Run R o fs held Going → IsPartial (R.gate fs) (held ++ piece)
    → Run R (o ++ piece) fs (held ++ piece) Going
run_part R o held piece fs r partial = record {
  whole = ap (λ (z : List ℕ). z ++ piece) r.whole ∙ append_assoc (frames_octets fs) held piece;
  good = r.good;
  ends = (r.ends.0, partial);
}

-- a header that is refused
pub run_header : {E X : Type 0} (R : Rules E X) (o held piece : List ℕ) (fs : List Frame) (fault : FrameFault) (code : ℕ) (why : X) → Run R o fs held Going
    → 8 ≤ length (held ++ piece) → header_fault (R.gate fs) (held ++ piece) ≡ Some fault → header_code fault ≡ Some code → R.of_header code ≡ why
    → Run R (o ++ piece) fs (held ++ piece) (Stopped why)
run_header R o held piece fs fault code why r whole fault_is code_is why_is = record {
  whole = ap (λ (z : List ℕ). z ++ piece) r.whole ∙ append_assoc (frames_octets fs) held piece;
  good = r.good;
  ends = (r.ends.0, inl (record { fault = fault; code = code; whole = whole; fault_is = fault_is; code_is = code_is; why_is = why_is }));
}

-- a frame that is refused
pub run_refused : {E X : Type 0} (R : Rules E X) (o held piece : List ℕ) (n : ℕ) (fs : List Frame) (f : Frame) (why : X) → Run R o fs held Going
    → held ++ take n piece ≡ frame_octets f → IsSized f → LetsIn (R.gate fs) f → refusal R fs f ≡ Some why → Run R (o ++ piece) fs (held ++ piece) (Stopped why)
run_refused R o held piece n fs f why r octets sized let_in refused = record {
  whole = ap (λ (z : List ℕ). z ++ piece) r.whole ∙ append_assoc (frames_octets fs) held piece;
  good = r.good;
  ends = (
    r.ends.0,
    inr (record {
      frame = f;
      more = drop n piece;
      parts = ap (λ (z : List ℕ). held ++ z) (sym (take-append-drop n piece))
          ∙ (sym (append_assoc held (take n piece) (drop n piece)) ∙ ap (λ (z : List ℕ). z ++ drop n piece) octets);
      sized = sized;
      let_in = let_in;
      refused = refused;
    }),
  );
}
