-- Behind which octets a moment is left over that was asked for.
use Rattle.std.specs.Prelude.{◌≡◌, ◌⊎◌, ℕ, ◌+◌, ◌<◌, Bool, true, false, IsTrue, List, [], ◌∷◌, ◌++◌, cond, length, Option, None, Some}
use Rattle.std.proofs.Common.{refl, sym, ◌∙◌, ap, inl, inr, append-nil, length-append, arith}
use Rattle.ua_builtin.specs.declared.date_time.DateTime.{DateTime}
use Rattle.ua_frame.proofs.Ends.{ends_stay}
use Rattle.ua_frame.proofs.Streams.{events-push, run_nil}
use Rattle.ua_frame.proofs.Unique.{unique}
use Rattle.ua_frame.specs.After.{each_from}
use Rattle.ua_frame.specs.Frames.{frames_octets}
use Rattle.ua_frame.specs.Run.{End, Rules, Run, Going, events}
use Rattle.ua_frame.specs.declared.frame.Frame.{Frame}
use Rattle.ua_frame.specs.declared.limits.Limits.{Limits}
use Rattle.ua_channel_laws.proofs.ReadOn.{begins_run, events_on}
use Rattle.ua_channel.specs.Agreement.{Agreement}
use Rattle.ua_channel.specs.Received.{closings, listed, received}
use Rattle.ua_channel.specs.ServerRules.{server_rules}
use Rattle.ua_channel.specs.ServerTold.{Told, Agreed, Opened, Asked, GaveUp, Closed}
use Rattle.ua_server.proofs.SaidInParts.{used_in-append}
use Rattle.ua_server.specs.Said.{is_answered, used_in}
use Rattle.ua_server.specs.Serving.{AreAsked, IsUsedUp}
use Rattle.ua_server.specs.ServingParts.{IsTimeKept}

-- ---- lists

-- a list with one item more that begins with another: nothing is behind that one, or the list does without the item
pub front_or_whole : {A : Type 0} (first later most : List A) (last : A) → most ++ last ∷ [] ≡ first ++ later
    → (later ≡ []) ⊎ ((more : List A) × (most ≡ first ++ more))
front_or_whole {A = A} [] later most last e = inr (most, refl)
front_or_whole {A = A} (x ∷ first) later [] last e = inl (none-behind first later (tails e))
  where
    tails : last ∷ [] ≡ x ∷ (first ++ later) → [] ≡ first ++ later
    tails p = cc

    none-behind : (first later : List A) → [] ≡ first ++ later → later ≡ []
    none-behind [] later p = sym p
    none-behind (y ∷ first) later p = absurd cc
front_or_whole {A = A} (x ∷ first) later (y ∷ most) last e = on (front_or_whole first later most last (tails e))
  where
    tails : (y ∷ most) ++ last ∷ [] ≡ (x ∷ first) ++ later → most ++ last ∷ [] ≡ first ++ later
    tails p = cc

    heads : (y ∷ most) ++ last ∷ [] ≡ (x ∷ first) ++ later → y ≡ x
    heads p = cc

    on : (later ≡ []) ⊎ ((more : List A) × (most ≡ first ++ more)) → (later ≡ []) ⊎ ((more : List A) × (y ∷ most ≡ (x ∷ first) ++ more))
    on (inl none) = inl none
    on (inr (more, is)) = inr (more, rw (heads e, is))

no-item : {A : Type 0} (most : List A) (last : A) → [] ≡ most ++ last ∷ [] → ⊥
no-item most last e = omega (arith, ap length e, length-append most (last ∷ []))

-- ---- octets

module _ (limits : Limits) (channel : ℕ) where
  abbrev rules : Rules Told ℕ
  rules = server_rules limits channel

  no-octets : (octets : List ℕ) (frames : List Frame) (rest : List ℕ) (end : End ℕ) → Run rules octets frames rest end → octets ≡ []
      → (frames ≡ []) × (end ≡ Going)
  unfolding received closings
  no-octets octets frames rest end run none =
      let same = unique rules [] frames [] rest [] end Going (rw (← none) run) (run_nil rules refl) in
      (same.frames, same.ends)

  -- where the connection ended one is left over
  pub over-left : (octets : List ℕ) (frames : List Frame) (rest : List ℕ) (end : End ℕ) → (end ≡ Going → ⊥) → Run rules octets frames rest end
      → IsUsedUp limits channel octets → ⊥
  over-left octets frames rest end over run (inl none) = over (no-octets octets frames rest end run none).1
  over-left octets frames rest end over run (inr u) = over (unique rules octets frames (u.frames ++ u.frame ∷ []) rest [] end Going run u.run).ends

  not-more : (a b c d : ℕ) → d ≡ a → d ≡ b + 1 → b ≡ a + c → ⊥
  not-more a b c d p q r = omega (arith, p, q, r)

  no-piece : (read piece frames rest : List ℕ) → 0 < length piece → read ≡ frames ++ rest → read ++ piece ≡ frames ++ [] → ⊥
  no-piece read piece frames rest some p q = omega (
    arith,
    some,
    ap length p,
    ap length q,
    length-append read piece,
    length-append frames rest,
    length-append frames [],
  )

  -- behind a piece of which nothing uses a moment one is left over
  pub quiet-left : (read piece : List ℕ) (before after : List Frame) (rest left : List ℕ) → 0 < length piece → Run rules read before rest Going
      → Run rules (read ++ piece) after left Going
      → used_in (events rules after) ≡ used_in (events rules before) → IsUsedUp limits channel (read ++ piece) → ⊥
  quiet-left read piece before after rest left some run later same (inl none) = omega (arith, some, ap length none, length-append read piece)
  quiet-left read piece before after rest left some run later same (inr u) = by (front_or_whole before front.0 u.frames u.frame front.1)
    where
      front : (more : List Frame) × (u.frames ++ u.frame ∷ [] ≡ before ++ more)
      front = begins_run rules read piece before (u.frames ++ u.frame ∷ []) rest Going run u.run

      all : after ≡ u.frames ++ u.frame ∷ []
      all = (unique rules (read ++ piece) after (u.frames ++ u.frame ∷ []) left [] Going Going later u.run).frames

      last : used_in (events rules after) ≡ used_in (events rules u.frames) + 1
      last = rw all (ap used_in (events-push rules u.frames u.frame)
          ∙ (used_in-append (events rules u.frames) (rules.tells u.frames u.frame) ∙ rw u.uses_one))

      by : (front.0 ≡ []) ⊎ ((more : List Frame) × (u.frames ≡ before ++ more)) → ⊥
      by (inl none) =
          let same_frames : u.frames ++ u.frame ∷ [] ≡ before = front.1 ∙ (rw none (append-nil before)) in
          no-piece read piece (frames_octets before) rest some run.whole (u.run.whole ∙ rw same_frames)
      by (inr (more, is)) =
          not-more (used_in (events rules before)) (used_in (events rules u.frames)) (used_in (each_from rules.tells before more))
          (used_in (events rules after)) same last
          (rw is (ap used_in (events_on rules before more) ∙ used_in-append (events rules before) (each_from rules.tells before more)))

  -- behind a frame that uses none one is left over
  unused-left : (octets : List ℕ) (frames : List Frame) (frame : Frame) → Run rules octets (frames ++ frame ∷ []) [] Going
      → used_in (rules.tells frames frame) ≡ 0 → IsUsedUp limits channel octets → ⊥
  unused-left octets frames frame run none (inl nothing) = no-item frames frame (sym (no-octets octets (frames ++ frame ∷ []) [] Going run nothing).0)
  unused-left octets frames frame run none (inr u) =
      let same = (unique rules octets (frames ++ frame ∷ []) (u.frames ++ u.frame ∷ []) [] [] Going Going run u.run).frames in
      let count : used_in (events rules (frames ++ frame ∷ [])) ≡ used_in (events rules frames) + 0 =
      ap used_in (events-push rules frames frame)
      ∙ (used_in-append (events rules frames) (rules.tells frames frame) ∙ rw none) in
      let other : used_in (events rules (u.frames ++ u.frame ∷ [])) ≡ used_in (events rules u.frames) + 1 =
      ap used_in (events-push rules u.frames u.frame)
      ∙ (used_in-append (events rules u.frames) (rules.tells u.frames u.frame) ∙ rw u.uses_one) in
      by-front (front_or_whole frames (frame ∷ []) u.frames u.frame (sym same)) count other same
    where
      by-front : (frame ∷ [] ≡ []) ⊎ ((more : List Frame) × (u.frames ≡ frames ++ more))
          → used_in (events rules (frames ++ frame ∷ [])) ≡ used_in (events rules frames) + 0
          → used_in (events rules (u.frames ++ u.frame ∷ [])) ≡ used_in (events rules u.frames) + 1 → frames ++ frame ∷ [] ≡ u.frames ++ u.frame ∷ [] → ⊥
      by-front (inl empty) count other same = absurd cc
      by-front (inr (more, is)) count other same =
          let on : used_in (events rules u.frames) ≡ used_in (events rules frames) + used_in (each_from rules.tells frames more) =
          ap (λ (fs : List Frame). used_in (events rules fs)) is
          ∙ (ap used_in (events_on rules frames more) ∙ used_in-append (events rules frames) (each_from rules.tells frames more)) in
          let one : used_in (events rules (frames ++ frame ∷ [])) ≡ used_in (events rules (u.frames ++ u.frame ∷ [])) =
          rw same in
          omega (arith, count, other, on, one)

  -- the moment that is kept behind an answer
  pub answer-kept : (greeted : Bool) (t : Told) (m : DateTime) (octets : List ℕ) (frames : List Frame) (frame : Frame) → IsTrue (is_answered t)
      → (greeted ≡ false → (a : Agreement) × (t ≡ Agreed a)) → (greeted ≡ true → (a : Agreement) → t ≡ Agreed a → ⊥)
      → Run rules octets (frames ++ frame ∷ []) [] Going → rules.tells frames frame ≡ t ∷ [] → IsTimeKept limits channel octets (cond greeted None (Some m))
  answer-kept false (Agreed a) m octets frames frame h first later run tells = unused-left octets frames frame run (ap used_in tells)
  answer-kept true (Agreed a) m octets frames frame h first later run tells = absurd (later refl a refl)
  answer-kept false (Opened id handle token lifetime) m octets frames frame h first later run tells = let e = (first refl).1 in absurd cc
  answer-kept true (Opened id handle token lifetime) m octets frames frame h first later run tells =
      inr (record { frames = frames; frame = frame; run = run; uses_one = ap used_in tells })
  answer-kept false (Asked id token message) m octets frames frame h first later run tells = let e = (first refl).1 in absurd cc
  answer-kept true (Asked id token message) m octets frames frame h first later run tells =
      inr (record { frames = frames; frame = frame; run = run; uses_one = ap used_in tells })
  answer-kept greeted (GaveUp id) m octets frames frame h first later run tells = absurd cc
  answer-kept greeted Closed m octets frames frame h first later run tells = absurd cc

  -- ---- how many are asked for

  pub asked-by : (octets : List ℕ) (told : List Told) (used : List DateTime) (kept : Option DateTime) → length used ≡ used_in told
      → IsTimeKept limits channel octets kept → AreAsked limits channel octets told (used ++ listed kept)
  asked-by octets told used None e k = inl (k, ap length (append-nil used) ∙ e)
  asked-by octets told used (Some m) e k = inr (k, length-append used (m ∷ []) ∙ rw e)

  -- more octets behind the end make no difference
  pub asked-over : (octets more : List ℕ) (frames : List Frame) (rest : List ℕ) (end : End ℕ) (told : List Told) (moments : List DateTime) → (end ≡ Going → ⊥)
      → Run rules octets frames rest end
      → AreAsked limits channel octets told moments → AreAsked limits channel (octets ++ more) told moments
  asked-over octets more frames rest end told moments over run (inl a) = absurd (over-left octets frames rest end over run a.0)
  asked-over octets more frames rest end told moments over run (inr a) =
      inr (over-left (octets ++ more) frames (rest ++ more) end over (ends_stay rules octets more frames rest end over run), a.1)

-- where there are no words nothing is to be written
pub no-words : (out : List ℕ) → out ≡ [] → 0 < length out → ⊥
no-words out none some = omega (arith, some, ap length none)
