-- A reading of more octets begins with that of the octets so far, where these go on.
use Rattle.std.proofs.Common.{ℕ, inl, inr, List, [], ◌∷◌, ◌++◌, sym, ◌∙◌, ap, subst, append_assoc, append-nil}
use Rattle.ua_frame.specs.declared.frame.Frame.{Frame}
use Rattle.ua_frame.specs.After.{AllFrom, AllAfter}
use Rattle.ua_frame.specs.Frames.{frames_octets}
use Rattle.ua_frame.specs.Run.{Rules, Fits, End, Going, Stopped, Over, EndsIn, Run}
use Rattle.ua_channel.proofs.AskedLater.{frames_octets-append}
use Rattle.ua_channel_laws.proofs.ReadOn.{all_append}

-- the rules behind frames
abbrev pub behind : {E X : Type 0} → Rules E X → List Frame → Rules E X
behind R fs = record {
  gate = λ (gs : List Frame). R.gate (fs ++ gs);
  reasons = λ (gs : List Frame) (g : Frame). R.reasons (fs ++ gs) g;
  of_header = R.of_header;
  tells = λ (gs : List Frame) (g : Frame). R.tells (fs ++ gs) g;
  over = λ (gs : List Frame). R.over (fs ++ gs);
}

fits_behind : {E X : Type 0} (R : Rules E X) (fs gs : List Frame) (g : Frame) → Fits (behind R fs) gs g → Fits R (fs ++ gs) g
fits_behind R fs gs g h = record { goes_on = h.goes_on; sized = h.sized; let_in = h.let_in; accepted = h.accepted }

all_behind : {E X : Type 0} (R : Rules E X) (fs start gs : List Frame) → AllFrom (Fits (behind R fs)) start gs → AllFrom (Fits R) (fs ++ start) gs
all_behind R fs start [] h = tt
all_behind R fs start (g ∷ gs) h = (
  fits_behind R fs start g h.0,
  subst (λ (t : List Frame). AllFrom (Fits R) t gs) (sym (append_assoc fs start (g ∷ [])))
      (all_behind R fs (start ++ g ∷ []) gs h.1),
)

end_behind : {E X : Type 0} (R : Rules E X) (fs gs : List Frame) (rest : List ℕ) (end : End X) → EndsIn (behind R fs) gs rest end → EndsIn R (fs ++ gs) rest end
end_behind R fs gs rest Going e = e
end_behind R fs gs rest (Stopped why) (goes_on, inl w) =
    (goes_on, inl (record { fault = w.fault; code = w.code; whole = w.whole; fault_is = w.fault_is; code_is = w.code_is; why_is = w.why_is }))
end_behind R fs gs rest (Stopped why) (goes_on, inr w) =
    (goes_on, inr (record { frame = w.frame; more = w.more; parts = w.parts; sized = w.sized; let_in = w.let_in; refused = w.refused }))
end_behind R fs gs rest Over e = e

-- octets that go on, and what is read behind them
pub run_further : {E X : Type 0} (R : Rules E X) (octets more : List ℕ) (fs gs : List Frame) (rest left : List ℕ) (end : End X)
    → Run R octets fs rest Going → Run (behind R fs) (rest ++ more) gs left end → Run R (octets ++ more) (fs ++ gs) left end
unfolding AllAfter
run_further R octets more fs gs rest left end r s = record {
  whole =
      ap (λ (t : List ℕ). t ++ more) r.whole
      ∙ (append_assoc (frames_octets fs) rest more
      ∙ (ap (λ (t : List ℕ). frames_octets fs ++ t) s.whole
      ∙ (sym (append_assoc (frames_octets fs) (frames_octets gs) left) ∙ ap (λ (t : List ℕ). t ++ left) (sym (frames_octets-append fs gs)))));
  good = all_append (Fits R) [] fs gs r.good (subst (λ (t : List Frame). AllFrom (Fits R) t gs) (append-nil fs) (all_behind R fs [] gs s.good));
  ends = end_behind R fs gs left end s.ends;
}
