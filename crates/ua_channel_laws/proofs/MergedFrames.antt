-- What frames of a merge bring, one after the other, and what is so of each of them behind those before it.
use Rattle.std.proofs.Common.{◌≡◌, ℕ, ◌≤◌, true, List, [], ◌∷◌, ◌++◌, Option, None, refl, sym, ◌∙◌, ap, append-nil, append_assoc}
use Rattle.std.specs.List.{AllByRecursion}
use Rattle.std.proofs.lemmas.List.{flat_map_more}
use Rattle.std.proofs.lemmas.List.Concat.{flat_map-append}
use Rattle.ua_frame.specs.After.{AllFrom, each_from}
use Rattle.ua_frame.specs.Frames.{frame_size}
use Rattle.ua_frame.specs.Run.{Going, Rules, Run}
use Rattle.ua_frame.specs.declared.frame.Frame.{Frame}
use Rattle.ua_frame.proofs.Unique.{unique}
use Rattle.ua_chunk.specs.Sequence.{may_follow}
use Rattle.ua_chunk.specs.declared.chunk.Chunk.{Chunk}
use Rattle.ua_channel.specs.Content.{Content, Opening, content}
use Rattle.ua_channel.specs.Content.Content.{Greets, Acks, Fails, Opens, Sends, Closes, Nothing}
use Rattle.ua_channel_laws.specs.Conversation.{AreOrdered}
use Rattle.ua_channel_laws.specs.Merges.{CarriesEither, MayComeNext, NumbersGoOn, latest_or}
use Rattle.ua_channel.specs.Received.{Received, after, chunks_in, latest, latest_behind, messages, numbers}
use Rattle.ua_channel.specs.Received.{numbers_in, openings, openings_in, received, tokens_in, used_tokens}
use Rattle.ua_channel.proofs.OneFrameMore.{behind_append, received-push}
use Rattle.ua_channel_laws.proofs.ReadOn.{all_behind}

-- ---- the last of numbers

pub latest_or-append : (n : ℕ) (ms more : List ℕ) → latest_or n (ms ++ more) ≡ latest_or (latest_or n ms) more
latest_or-append n [] more = refl
latest_or-append n (m ∷ ms) more = latest_or-append m ms more

last_is : (frames : List Frame) → (received frames).last ≡ latest (numbers frames)
unfolding received
last_is frames = refl

numbers-append : (before more : List Frame) → numbers (before ++ more) ≡ numbers before ++ numbers more
unfolding numbers
numbers-append before more = flat_map-append (λ (f : Frame). numbers_in (content f)) before more

last_behind : (before more : List Frame) → (received (before ++ more)).last ≡ latest_behind (received before).last (numbers more)
last_behind before more =
    last_is (before ++ more)
    ∙ (ap latest (numbers-append before more)
    ∙ (behind_append None (numbers before) (numbers more)
    ∙ rw (sym (last_is before))))

-- numbers that go on from the next one are in order behind the last one before it
pub goes_ordered : (last : Option ℕ) (next after : ℕ) (ns : List ℕ) → may_follow last next ≡ true → NumbersGoOn next ns after → AreOrdered last ns
goes_ordered last next after [] follows g = tt
goes_ordered last next after (n ∷ ns) follows g = (ap (may_follow last) g.0 ∙ follows, g.1)

goes_behind : (last : Option ℕ) (next after : ℕ) (ns : List ℕ) → may_follow last next ≡ true → NumbersGoOn next ns after
    → may_follow (latest_behind last ns) after ≡ true
goes_behind last next after [] follows g = ap (may_follow last) g.0 ∙ follows
goes_behind last next after (n ∷ ns) follows g = g.2

-- and the one after them may follow the last
pub goes_follows : (before more : List Frame) (next after : ℕ) → may_follow (received before).last next ≡ true → NumbersGoOn next (numbers more) after
    → may_follow (received (before ++ more)).last after ≡ true
goes_follows before more next after follows g = rw (last_behind before more) (goes_behind (received before).last next after (numbers more) follows g)

pub goes_small : (next after : ℕ) (ns : List ℕ) → NumbersGoOn next ns after → after ≤ 4294966272
goes_small next after [] g = g.1
goes_small next after (n ∷ ns) g = g.3

-- a number that may come next follows the last one of the frames
pub next_follows : {T W : Type 0} (R : Rules T W) (octets : List ℕ) (fs : List Frame) (number : ℕ) → Run R octets fs [] Going → MayComeNext R octets number
    → may_follow (received fs).last number ≡ true
next_follows R octets fs number run n = rw (← sym (unique R octets fs n.frames [] [] Going Going run n.run).frames) n.follows

-- ---- the lists that frames brought

pub openings-more : (fs : List Frame) (f : Frame) → openings (fs ++ f ∷ []) ≡ openings fs ++ openings_in (content f)
unfolding openings
openings-more fs f = sym (flat_map_more (λ (g : Frame). openings_in (content g)) [] fs f)

pub tokens-more : (fs : List Frame) (f : Frame) → used_tokens (fs ++ f ∷ []) ≡ used_tokens fs ++ tokens_in (content f)
unfolding used_tokens
tokens-more fs f = sym (flat_map_more (λ (g : Frame). tokens_in (content g)) [] fs f)

messages-more : (fs : List Frame) (f : Frame) → messages (fs ++ f ∷ []) ≡ messages fs ++ chunks_in (content f)
unfolding messages
messages-more fs f = sym (flat_map_more (λ (g : Frame). chunks_in (content g)) [] fs f)

-- no frames brought nothing
pub nothing_yet : (P : List ℕ → List Opening → List Chunk → Type 0) → P [] [] [] → P (used_tokens []) (openings []) (messages [])
unfolding used_tokens openings messages
nothing_yet P h = h

pub none_used : (n : ℕ) → latest_or n (used_tokens []) ≡ n
unfolding used_tokens
none_used n = refl

-- ---- what a frame of a merge carries

-- what holds of such openings and of such chunks
pub of_either : (opens : Opening → Type 0) (sends : Chunk → Type 0) (P : Content → Type 0) → ((o : Opening) → opens o → P (Opens o))
    → ((c : Chunk) → sends c → P (Sends c)) → (k : Content)
    → CarriesEither opens sends k → P k
of_either opens sends P h g (Greets hello) is = absurd is
of_either opens sends P h g (Acks ack) is = absurd is
of_either opens sends P h g (Fails error) is = absurd is
of_either opens sends P h g (Opens o) is = h o is
of_either opens sends P h g (Sends c) is = g c is
of_either opens sends P h g (Closes c) is = absurd is
of_either opens sends P h g Nothing is = absurd is

pub sized : (size : ℕ) (May : List Frame → Frame → Type 0) (us fs : List Frame) → AllByRecursion (λ (f : Frame). frame_size f ≤ size) fs → AllFrom May us fs
    → AllFrom (λ vs f. (frame_size f ≤ size) × May vs f) us fs
sized size May us [] fits may = tt
sized size May us (f ∷ fs) fits may = ((fits.0, may.0), sized size May (us ++ f ∷ []) fs fits.1 may.1)

-- ---- along the frames of a merge

module _ (C : List Chunk → Chunk → Type 0) (us : List Frame) (f : Frame) (fs : List Frame) (all : AllFrom C (messages us) (messages (f ∷ fs))) where
  chunks_here : AllFrom C (messages us) (chunks_in (content f) ++ messages fs)
  unfolding messages
  chunks_here = all

  chunks_behind : AllFrom C (messages (us ++ f ∷ [])) (messages fs)
  chunks_behind = rw (messages-more us f) (all_behind C (messages us) (chunks_in (content f)) (messages fs) chunks_here)

-- where these frames come behind others: what is known behind each of them, by what was received and by the tokens, openings and chunks of those
-- of them that came
module _ (before : List Frame) (Here : Received → List ℕ → List Opening → List Chunk → Type 0) (May : List Frame → Frame → Type 0)
    (step : (b : Received) (us : List Frame) (f : Frame) → May us f → Here b (used_tokens us) (openings us) (messages us)
    → Here (after b (content f)) (used_tokens us ++ tokens_in (content f)) (openings us ++ openings_in (content f))
    (messages us ++ chunks_in (content f))) where
  abbrev pub IsAt : List Frame → Type 0
  IsAt us = Here (received (before ++ us)) (used_tokens us) (openings us) (messages us)

  then_at : (us : List Frame) (f : Frame) → May us f → IsAt us → IsAt (us ++ f ∷ [])
  then_at us f may h =
      let now : received (before ++ (us ++ f ∷ [])) ≡ after (received (before ++ us)) (content f) = ap received (sym (append_assoc before us (f ∷ [])))
      ∙ received-push (before ++ us) f in
      rw (now, tokens-more us f, openings-more us f, messages-more us f) (step (received (before ++ us)) us f may h)

  module _ (C : List Chunk → Chunk → Type 0) where
    along : (Q : List Frame → Frame → Type 0)
        → ((us : List Frame) (f : Frame) (rest : List Chunk) → May us f → IsAt us → AllFrom C (messages us) (chunks_in (content f) ++ rest)
        → Q (before ++ us) f) → (us fs : List Frame)
        → IsAt us → AllFrom May us fs → AllFrom C (messages us) (messages fs) → AllFrom Q (before ++ us) fs
    along Q one us [] h may cs = tt
    along Q one us (f ∷ fs) h may cs = (
      one us f (messages fs) may.0 h (chunks_here C us f fs cs),
      rw (append_assoc before us (f ∷ [])) (along Q one (us ++ f ∷ []) fs (then_at us f may.0 h) may.1 (chunks_behind C us f fs cs)),
    )

    told_along : {E : Type 0} (tells told : List Frame → Frame → List E)
        → ((us : List Frame) (f : Frame) (rest : List Chunk) → May us f → IsAt us → AllFrom C (messages us) (chunks_in (content f) ++ rest)
        → tells (before ++ us) f ≡ told us f) → (us fs : List Frame)
        → IsAt us → AllFrom May us fs → AllFrom C (messages us) (messages fs) → each_from tells (before ++ us) fs ≡ each_from told us fs
    told_along tells told one us [] h may cs = refl
    told_along {E = E} tells told one us (f ∷ fs) h may cs =
        rw (one us f (messages fs) may.0 h (chunks_here C us f fs cs)) (ap (λ (ts : List E). told us f ++ ts)
        (rw (append_assoc before us (f ∷ [])) (told_along tells told one (us ++ f ∷ []) fs (then_at us f may.0 h) may.1 (chunks_behind C us f fs cs))))

  ends_at : (us fs : List Frame) → IsAt us → AllFrom May us fs → IsAt (us ++ fs)
  ends_at us [] h may = rw (append-nil us) h
  ends_at us (f ∷ fs) h may = rw (← append_assoc us (f ∷ []) fs) (ends_at (us ++ f ∷ []) fs (then_at us f may.0 h) may.1)

  module _ (fs : List Frame) (h : Here (received before) [] [] []) (may : AllFrom May [] fs) where
    first : IsAt []
    first = nothing_yet (λ ts os cs. Here (received (before ++ [])) ts os cs)
        (rw (append-nil before) h)

    -- what is known behind all of them
    pub at_end : Here (received (before ++ fs)) (used_tokens fs) (openings fs) (messages fs)
    at_end = ends_at [] fs first may

    module _ (C : List Chunk → Chunk → Type 0) (cs : AllFrom C [] (messages fs)) where
      from_first : AllFrom C (messages []) (messages fs)
      from_first = nothing_yet (λ ts os us. AllFrom C us (messages fs)) cs

      -- what is so of each of them
      pub each_along : (Q : List Frame → Frame → Type 0)
          → ((us : List Frame) (f : Frame) (rest : List Chunk) → May us f → IsAt us → AllFrom C (messages us) (chunks_in (content f) ++ rest)
          → Q (before ++ us) f) → AllFrom Q before fs
      each_along Q one = rw (← append-nil before) (along C Q one [] fs first may from_first)

      -- and what they tell
      pub all_told : {E : Type 0} (tells told : List Frame → Frame → List E)
          → ((us : List Frame) (f : Frame) (rest : List Chunk) → May us f → IsAt us → AllFrom C (messages us) (chunks_in (content f) ++ rest)
          → tells (before ++ us) f ≡ told us f) → each_from tells before fs ≡ each_from told [] fs
      all_told tells told one = rw (sym (append-nil before)) (told_along C tells told one [] fs first may from_first)
