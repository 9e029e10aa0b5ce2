-- Where a frame begins.
use Rattle.std.specs.Prelude.{◌≡◌, ℕ, nat_lt, cond, List, [], ◌∷◌}
use Rattle.ua_frame.specs.Frames.{Frames}
use Rattle.ua_judge.specs.Renumbered.{each_from_place}

-- the last of these numbers that is less than a place, or else the one before them
abbrev pub last_below : ℕ → ℕ → List ℕ → ℕ
last_below place start [] = start
last_below place start (end ∷ ends) = last_below place (cond (nat_lt end place) end start) ends

-- the end of the last frame that ends before the place, or 0
pub record StartsAt (octets : List ℕ) (place start : ℕ) : Type 0 where
  pub frames : List (List ℕ)
  pub rest : List ℕ
  pub framed : Frames octets frames rest
  pub start_is : start ≡ last_below place 0 (each_from_place (λ end frame. end ∷ []) 0 frames)
