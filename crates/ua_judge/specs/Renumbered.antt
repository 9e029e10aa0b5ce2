-- The bytes of a stream with the numbers that an end chose replaced by those that our end would have
-- chosen: the k-th token by k, the k-th request by k; a number that was never chosen by 0, which our
-- ends never choose. All other bytes stay.
use Rattle.std.specs.Prelude.{◌≡◌, ℕ, ◌+◌, List, [], ◌∷◌, ◌++◌, length, take, drop, Option, Some, None}
use Rattle.ua_builtin.specs.Number.{number_octets}
use Rattle.ua_frame.specs.Frames.{Frames}
use Rattle.ua_judge.specs.declared.field.Field.{Field}
use Rattle.ua_judge.specs.declared.field.Field.TheVariants.{Token, Request}
use Rattle.ua_judge.specs.declared.named.Named.{Named}
use Rattle.ua_judge.specs.Names.{rank, is_known}
use Rattle.ua_judge.specs.RawFrames.{number_from, token_place, id_place}

-- what frames give, each by itself and by the place where it ends, one after the other; the first one
-- begins at this place
abbrev pub each_from_place : {A : Type 0} → (ℕ → List ℕ → List A) → ℕ → List (List ℕ) → List A
each_from_place give at [] = []
each_from_place give at (frame ∷ frames) = give (at + length frame) frame ++ each_from_place give (at + length frame) frames

-- the place of the field in a frame that has it
abbrev pub place_of : Field → List ℕ → Option ℕ
place_of Token frame = token_place frame
place_of Request frame = id_place frame

-- a frame with another UInt32 at a place
abbrev pub with_number_at : ℕ → ℕ → List ℕ → List ℕ
with_number_at place number frame = take place frame ++ (number_octets 4 number ++ drop (place + 4) frame)

-- a frame that ends at this place, with the number at this place in it replaced, if there is one
abbrev pub renumbered_at : List Named → ℕ → Option ℕ → List ℕ → List ℕ
renumbered_at names end None frame = frame
renumbered_at names end (Some place) frame = with_number_at place (rank (is_known (number_from place frame) end) names) frame

-- a frame that ends at this place, renumbered
abbrev pub renumbered : Field → List Named → ℕ → List ℕ → List ℕ
renumbered field names end frame = renumbered_at names end (place_of field frame) frame

-- each frame of the bytes is renumbered; what follows them stays
pub record IsRenumbered (field : Field) (names : List Named) (octets out : List ℕ) : Type 0 where
  pub frames : List (List ℕ)
  pub rest : List ℕ
  pub framed : Frames octets frames rest
  pub out_is : out ≡ each_from_place (renumbered field names) 0 frames ++ rest
