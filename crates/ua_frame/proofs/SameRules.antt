-- Rules that agree on the frames of a stream read it alike.
use Rattle.std.proofs.Common.{ℕ, List, [], ◌∷◌, ◌++◌, sym, ◌∙◌, ap, subst}
use Rattle.ua_builtin.specs.Reasons.{first_reason}
use Rattle.ua_frame.specs.declared.frame.Frame.{Frame}
use Rattle.ua_frame.specs.declared.gate.Gate.{Gate}
use Rattle.ua_frame.specs.After.{AllFrom, AllAfter}
use Rattle.ua_frame.specs.Frames.{LetsIn, IsPartial}
use Rattle.ua_frame.specs.Run.{Rules, Fits, Run, Going}
use Rattle.ua_frame.specs.Same.{SameAt, SameOn}

-- ---- frame by frame

fits_same : {E F X : Type 0} (R : Rules E X) (S : Rules F X) (before : List Frame) (f : Frame) → SameAt R S before f → Fits R before f → Fits S before f
fits_same R S before f same h = record {
  goes_on = sym same.over ∙ h.goes_on;
  sized = h.sized;
  let_in = subst (λ (g : Gate). LetsIn g f) same.gate h.let_in;
  accepted = ap first_reason (sym same.reasons) ∙ h.accepted;
}

all_same : {E F X : Type 0} (R : Rules E X) (S : Rules F X) (start fs : List Frame) → AllFrom (SameAt R S) start fs → AllFrom (Fits R) start fs
    → AllFrom (Fits S) start fs
all_same R S start [] same good = tt
all_same R S start (f ∷ fs) same good = (fits_same R S start f same.0 good.0, all_same R S (start ++ f ∷ []) fs same.1 good.1)

good_same : {E F X : Type 0} (R : Rules E X) (S : Rules F X) (fs : List Frame) → AllAfter (SameAt R S) fs → AllAfter (Fits R) fs → AllAfter (Fits S) fs
unfolding AllAfter
good_same R S fs same good = all_same R S [] fs same good

-- ---- behind the last one

pub same_going : {E F X : Type 0} (R : Rules E X) (S : Rules F X) (o : List ℕ) (fs : List Frame) (rest : List ℕ) → SameOn R S fs → Run R o fs rest Going
    → Run S o fs rest Going
same_going R S o fs rest same r = record {
  whole = r.whole;
  good = good_same R S fs same.each r.good;
  ends = (sym same.over ∙ r.ends.0, subst (λ (g : Gate). IsPartial g rest) same.gate r.ends.1);
}
