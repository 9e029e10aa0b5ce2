-- The first frame of bytes.
use Rattle.std.proofs.Common.{◌≡◌, List, ℕ, [], ◌∷◌, ◌++◌, Some, None, refl, sym, ◌∙◌, ap}
use Rattle.ua_frame.specs.Frames.{IsRawFrame, IsRest}
use Rattle.ua_frame.proofs.RawFrames.{joined-cons, joined-nil}
use Rattle.ua_frame.proofs.Readings.{framing}
use Rattle.ua_judge.specs.Agreed.{IsFirst}

pub first_some : (o f more : List ℕ) → o ≡ f ++ more → IsRawFrame f → IsFirst o (Some f)
first_some o f more parts raw =
    let g = framing more in
    record {
      frames = f ∷ g.frames;
      rest = g.rest;
      framed = record {
        whole = parts ∙ (ap (λ (t : List ℕ). f ++ t) g.framed.whole ∙ sym (joined-cons f g.frames g.rest));
        each = (raw, g.framed.each);
        partial = g.framed.partial;
      };
      first_is = refl;
    }

pub first_none : (o : List ℕ) → IsRest o → IsFirst o None
first_none o partial = record { frames = []; rest = o; framed = record { whole = sym (joined-nil o); each = tt; partial = partial }; first_is = refl }
