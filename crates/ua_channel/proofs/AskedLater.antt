-- What is asked behind the octets that came changes nothing of how they are read.
use Rattle.std.proofs.Common.{◌≡◌, ℕ, ◌≤◌, List, [], ◌∷◌, ◌++◌, length, refl, sym, ◌∙◌, ap, arith, append_assoc, length-append, append-nil, subst}
use Rattle.std.proofs.lemmas.Grind.{flat_map-append}
use Rattle.std.specs.List.{AllByRecursion}
use Rattle.ua_frame.specs.declared.frame.Frame.{Frame}
use Rattle.ua_frame.specs.declared.limits.Limits.{Limits}
use Rattle.ua_frame.specs.After.{AllFrom, AllAfter}
use Rattle.ua_frame.specs.Frames.{frame_octets, frames_octets}
use Rattle.ua_frame.specs.Run.{Run, Going}
use Rattle.ua_frame.specs.Same.{SameAt}
use Rattle.ua_frame.proofs.SameRules.{same_going}
use Rattle.ua_channel.specs.Asks.{Asking, Placed, end_of, asked_before}
use Rattle.ua_channel.specs.ClientTable.{client_rules, client_reasons}
use Rattle.ua_channel.specs.Content.{content}
use Rattle.ua_channel.specs.Received.{received}
use Rattle.ua_channel.proofs.Askings.{asked_before-push, all-weaken}

pub frames_octets-append : (fs gs : List Frame) → frames_octets (fs ++ gs) ≡ frames_octets fs ++ frames_octets gs
unfolding frames_octets
frames_octets-append fs gs = flat_map-append frame_octets fs gs

-- a frame ends within the octets of all frames
ends_within : (start : List Frame) (f : Frame) (fs : List Frame) → end_of start f ≤ length (frames_octets (start ++ f ∷ fs))
ends_within start f fs =
    let parts : start ++ f ∷ fs ≡ (start ++ f ∷ []) ++ fs = sym (append_assoc start (f ∷ []) fs) in
    omega (
      arith,
      ap length (ap frames_octets parts ∙ frames_octets-append (start ++ f ∷ []) fs),
      length-append (frames_octets (start ++ f ∷ [])) (frames_octets fs),
    )

-- asks at a place or behind it were not made before it
pub asked_before-later : (place : ℕ) (asks later : List Placed) → AllByRecursion (λ (a : Placed). place ≤ a.0) later
    → asked_before place (asks ++ later) ≡ asked_before place asks
asked_before-later place asks [] behind = ap (asked_before place) (append-nil asks)
asked_before-later place asks (a ∷ later) behind =
    ap (asked_before place) (sym (append_assoc asks (a ∷ []) later))
    ∙ (asked_before-later place (asks ++ a ∷ []) later behind.1 ∙ asked_before-push place asks a behind.0)

module _ (limits : Limits) (asks later : List Placed) where
  same_from : (start fs : List Frame) → AllByRecursion (λ (a : Placed). length (frames_octets (start ++ fs)) ≤ a.0) later
      → AllFrom (SameAt (client_rules limits asks) (client_rules limits (asks ++ later))) start fs
  same_from start [] behind = tt
  same_from start (f ∷ fs) behind = (
    record {
      gate = refl;
      over = refl;
      reasons =
          ap (λ (asked : List Asking). client_reasons limits (received start) asked (content f))
          (sym (asked_before-later (end_of start f) asks later
          (all-weaken (λ (a : Placed). length (frames_octets (start ++ f ∷ fs)) ≤ a.0) (λ (a : Placed). end_of start f ≤ a.0) later
          (λ a le. omega (arith, le, ends_within start f fs)) behind)));
    },
    same_from (start ++ f ∷ []) fs
        (subst (λ (gs : List Frame). AllByRecursion (λ (a : Placed). length (frames_octets gs) ≤ a.0) later) (sym (append_assoc start (f ∷ []) fs)) behind),
  )

  -- octets that go on are read as they were
  pub going_on : (octets : List ℕ) (frames : List Frame) (rest : List ℕ) → AllByRecursion (λ (a : Placed). length octets ≤ a.0) later
      → Run (client_rules limits asks) octets frames rest Going
      → Run (client_rules limits (asks ++ later)) octets frames rest Going
  unfolding AllAfter
  going_on octets frames rest behind run =
      same_going (client_rules limits asks) (client_rules limits (asks ++ later)) octets frames rest
      (record {
        each =
            same_from [] frames
            (all-weaken (λ (a : Placed). length octets ≤ a.0) (λ (a : Placed). length (frames_octets frames) ≤ a.0) later
            (λ a le. omega (arith, ap length run.whole, length-append (frames_octets frames) rest, le)) behind);
        gate = refl;
        over = refl;
      }) run

-- one ask more
pub asked_later : (limits : Limits) (asks : List Placed) (a : Placed) (octets : List ℕ) (frames : List Frame) (rest : List ℕ) → length octets ≤ a.0
    → Run (client_rules limits asks) octets frames rest Going → Run (client_rules limits (asks ++ a ∷ [])) octets frames rest Going
asked_later limits asks a octets frames rest within run = going_on limits asks (a ∷ []) octets frames rest (within, tt) run
