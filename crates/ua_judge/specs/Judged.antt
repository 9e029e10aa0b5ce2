-- The verdicts on both sides of a recorded connection: those of our ends, of the bytes with our numbers in
-- the place of theirs. The client's bytes are up, the server's are down.
use Rattle.std.specs.Prelude.{ℕ, true, List, [], ◌∷◌, drop, length, map, None}
use Rattle.ua_frame.specs.declared.limits.Limits.{Limits}
use Rattle.ua_judge.specs.Agreed.{AreClientLimits, AreServerLimits}
use Rattle.ua_judge.specs.Marks.{placed}
use Rattle.ua_judge.specs.Openings.{AreOpenings}
use Rattle.ua_judge.specs.Renumbered.{IsRenumbered}
use Rattle.ua_judge.specs.Requests.{AreRequests}
use Rattle.ua_judge.specs.Verdicts.{IsClientVerdict, IsServerVerdict}
use Rattle.ua_judge.specs.declared.field.Field.TheVariants.{Token, Request}
use Rattle.ua_judge.specs.declared.mark.Mark.{Mark}
use Rattle.ua_judge.specs.declared.named.Named.{Named}
use Rattle.ua_judge.specs.declared.openings.Opened.{Opened}
use Rattle.ua_judge.specs.declared.verdict.Verdict.{Verdict}

-- the token of an opening
abbrev pub token_name : Opened → Named
token_name opened = record { number = opened.token; place = 0; opens = true; kind = None }

-- the channel of the first opening, 0 if there is none
abbrev pub channel_of_openings : List Opened → ℕ
channel_of_openings [] = 0
channel_of_openings (opened ∷ openings) = opened.channel

-- the verdict on the client: that of a server with the limits of the recorded one, on its channel, whose
-- k-th token is the k-th recorded one
pub record JudgesUp (up down : List ℕ) (verdict : Verdict) : Type 0 where
  pub openings : List Opened
  pub are : AreOpenings down openings
  pub limits : Limits
  pub limits_are : AreServerLimits down limits
  pub octets : List ℕ
  pub renumbered : IsRenumbered Token (map token_name openings) up octets
  pub is : IsClientVerdict limits (channel_of_openings openings) octets verdict

-- the verdict on the server: that of a client with the limits of the recorded one, whose k-th request is
-- the k-th recorded one, sent where the marks tell
pub record JudgesDown (up down : List ℕ) (marks : List Mark) (verdict : Verdict) : Type 0 where
  pub requests : List Named
  pub are : AreRequests up requests
  pub limits : Limits
  pub limits_are : AreClientLimits up limits
  pub octets : List ℕ
  pub renumbered : IsRenumbered Request (map (placed marks (length down)) requests) down octets
  pub is : IsServerVerdict limits (drop 1 (map (placed marks (length down)) requests)) octets verdict
