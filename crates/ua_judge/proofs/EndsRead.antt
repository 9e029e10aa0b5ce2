-- The ends of the frames that were read, and the last one before a place.
use Rattle.std.proofs.Common.{◌≡◌, ℕ, ◌-◌, cond, List, [], ◌∷◌, ◌++◌, length, refl, sym, ◌∙◌, ap}
use Rattle.std.specs.Prelude.{nat_lt}
use Rattle.ua_frame.specs.Frames.{IsRawFrame, IsRest}
use Rattle.ua_judge.specs.Starts.{StartsAt, last_below}
use Rattle.ua_judge.proofs.FramesRead.{ReadTo, read_all, read_more, read_none}

-- a frame's end alone
abbrev pub end_alone : ℕ → List ℕ → List ℕ
end_alone end frame = end ∷ []

last_more : (place s : ℕ) (es : List ℕ) (e : ℕ) → last_below place s (es ++ e ∷ []) ≡ cond (nat_lt e place) e (last_below place s es)
last_more place s [] e = refl
last_more place s (x ∷ xs) e = last_more place (cond (nat_lt x place) x s) xs e

-- the frames before the rest have these ends, and this is the last one before the place
pub record EndsTo (octets rest : List ℕ) (place start : ℕ) : Type 0 where
  pub ends : List ℕ
  pub read : ReadTo end_alone octets rest ends
  pub start_is : start ≡ last_below place 0 ends

pub ends_none : (octets : List ℕ) (place : ℕ) → EndsTo octets octets place 0
ends_none octets place = record { ends = []; read = read_none end_alone octets [] refl; start_is = refl }

pub ends_more : (octets rest frame more : List ℕ) (place start new : ℕ) → EndsTo octets rest place start → rest ≡ frame ++ more → IsRawFrame frame
    → new ≡ cond (nat_lt (length octets - length more) place) (length octets - length more) start → EndsTo octets more place new
ends_more octets rest frame more place start new e parts raw is = record {
  ends = e.ends ++ (length octets - length more) ∷ [];
  read = read_more end_alone octets rest frame more e.ends _ e.read parts raw refl;
  start_is =
      is ∙ (ap (λ (s : ℕ). cond (nat_lt (length octets - length more) place) (length octets - length more) s) e.start_is
      ∙ sym (last_more place 0 e.ends (length octets - length more)));
}

pub ends_all : (octets rest : List ℕ) (place start : ℕ) → EndsTo octets rest place start → IsRest rest → StartsAt octets place start
ends_all octets rest place start e partial = record {
  frames = e.read.frames;
  rest = rest;
  framed = read_all end_alone octets rest e.ends e.read partial;
  start_is = e.start_is ∙ ap (last_below place 0) e.read.out_is;
}
