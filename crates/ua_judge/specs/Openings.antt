-- What the OPN responses of a server brought: the channel and its tokens (OPC 10000-4, 5.6.2).
use Rattle.std.specs.Prelude.{◌≡◌, ℕ, ◌+◌, List, drop, option_to_list, Option, Some, None}
use Rattle.ua_frame.specs.Frames.{Frames, kind_of}
use Rattle.ua_frame.specs.declared.kind.Kind.{Kind}
use Rattle.ua_frame.specs.declared.kind.Kind.TheVariants.{Opn}
use Rattle.ua_opening.specs.Open.{answer_read}
use Rattle.ua_opening.specs.declared.open.OpenAnswer.{OpenAnswer}
use Rattle.ua_opening.specs.declared.open.OpenAnswer.TheVariants.{Open, Fault}
use Rattle.ua_judge.specs.declared.openings.Opened.{Opened}
use Rattle.ua_judge.specs.RawFrames.{id_place}
use Rattle.ua_judge.specs.Renumbered.{each_from_place}

-- the channel and the token of an answer, if it is a response
abbrev pub opened_with : Option OpenAnswer → Option Opened
opened_with None = None
opened_with (Some (Fault fault)) = None
opened_with (Some (Open response)) = Some (record { channel = response.channel_id; token = response.token_id })

-- the same of the body of an OPN
abbrev pub opened_in : List ℕ → Option Opened
opened_in body = opened_with (answer_read body)

-- the body of an OPN follows its RequestId
abbrev pub opened_behind_id : Option Kind → Option ℕ → List ℕ → Option Opened
opened_behind_id (Some Opn) (Some place) frame = opened_in (drop (place + 4) frame)
opened_behind_id kind place frame = None

-- what a frame brought, if it is an OPN with a response
abbrev pub opened_in_frame : List ℕ → Option Opened
opened_in_frame frame = opened_behind_id (kind_of frame) (id_place frame) frame

-- what the OPNs of a server's bytes brought, in order
pub record AreOpenings (octets : List ℕ) (found : List Opened) : Type 0 where
  pub frames : List (List ℕ)
  pub rest : List ℕ
  pub framed : Frames octets frames rest
  pub found_are : found ≡ each_from_place (λ end frame. option_to_list (opened_in_frame frame)) 0 frames
