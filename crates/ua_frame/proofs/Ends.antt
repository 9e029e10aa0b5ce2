-- What follows a refused or a last frame counts for nothing.
use Rattle.std.proofs.Common.{◌≡◌, ℕ, ◌⊎◌, inl, inr, List, ◌++◌, refl, ◌∙◌, ap, arith, append_assoc, length-append}
use Rattle.ua_frame.specs.declared.frame.Frame.{Frame}
use Rattle.ua_frame.specs.Frames.{frame_octets, frames_octets}
use Rattle.ua_frame.specs.Run.{Rules, Run, End, Going, Stopped, Over, WrongHeader, WrongFrame, EndsIn}
use Rattle.ua_frame.proofs.Fronts.{fault_front}

wrong_stays : {E X : Type 0} (R : Rules E X) (before : List Frame) (rest more : List ℕ) (why : X)
    → (WrongHeader R before rest why ⊎ WrongFrame R before rest why) → (WrongHeader R before (rest ++ more) why ⊎ WrongFrame R before (rest ++ more) why)
wrong_stays R before rest more why (inl w) =
    inl (record {
      fault = w.fault;
      code = w.code;
      whole = omega (arith, w.whole, length-append rest more);
      fault_is = fault_front (R.gate before) rest more w.whole ∙ w.fault_is;
      code_is = w.code_is;
      why_is = w.why_is;
    })
wrong_stays R before rest more why (inr w) =
    inr (record {
      frame = w.frame;
      more = w.more ++ more;
      parts = ap (λ (t : List ℕ). t ++ more) w.parts ∙ append_assoc (frame_octets w.frame) w.more more;
      sized = w.sized;
      let_in = w.let_in;
      refused = w.refused;
    })

end_stays : {E X : Type 0} (R : Rules E X) (fs : List Frame) (rest more : List ℕ) (end : End X) → (end ≡ Going → ⊥) → EndsIn R fs rest end
    → EndsIn R fs (rest ++ more) end
end_stays R fs rest more Going over e = absurd (over refl)
end_stays R fs rest more (Stopped why) over e = (e.0, wrong_stays R fs rest more why e.1)
end_stays R fs rest more Over over e = e

pub ends_stay : {E X : Type 0} (R : Rules E X) (o more : List ℕ) (fs : List Frame) (rest : List ℕ) (end : End X) → (end ≡ Going → ⊥) → Run R o fs rest end
    → Run R (o ++ more) fs (rest ++ more) end
ends_stay R o more fs rest end over r = record {
  whole = ap (λ (t : List ℕ). t ++ more) r.whole ∙ append_assoc (frames_octets fs) rest more;
  good = r.good;
  ends = end_stays R fs rest more end over r.ends;
}
