-- The kinds of messages that a client has begun, one frame after the other.
use Rattle.std.proofs.Common.{◌≡◌, ℕ, ◌+◌, ◌-◌, ◌≤◌, Bool, true, false, cond, not, List, [], ◌∷◌, ◌++◌, length, take, drop, Option, Some, refl, sym, ◌∙◌, ap}
use Rattle.std.proofs.Common.{subst, arith, append-nil, length-append}
use Rattle.std.specs.Prelude.{◌==◌, option_to_list}
use Rattle.std.specs.List.{AllByRecursion, filter}
use Rattle.std.proofs.lemmas.Bool.{eq-eqb, eqb-true}
use Rattle.std.proofs.lemmas.List.{length-drop, take_all}
use Rattle.ua_chunk.specs.Gathered.{after_last}
use Rattle.ua_chunk.proofs.Lists.{after_last_push, filter_push}
use Rattle.ua_frame.specs.After.{each_after}
use Rattle.ua_frame.specs.Frames.{Frames, IsRawFrame, IsRest, joined_parts, kind_of}
use Rattle.ua_frame.specs.declared.kind.Kind.TheVariants.{Msg}
use Rattle.ua_frame.proofs.Afters.{each_after-push}
use Rattle.ua_frame.proofs.RawFrames.{joined-nil}
use Rattle.ua_services.specs.declared.request.RequestKind.{RequestKind}
use Rattle.ua_judge.specs.Begun.{AreBegun, begun_after, begun_if, begun_kind}
use Rattle.ua_judge.specs.Kinds.{request_kind_of}
use Rattle.ua_judge.specs.RawFrames.{id_place, number_from}
use Rattle.ua_judge.specs.Requests.{chunk_kind, chunk_kind_at, first_kind, is_chunk_by, is_chunk_of}
use Rattle.ua_judge.specs.Requests.{is_last, request_message_kind, request_in, unfinished_chunks}
use Rattle.ua_judge.specs.declared.named.Named.{Named}
use Rattle.ua_judge.specs.declared.requests.Begun.{Begun}
use Rattle.ua_judge.proofs.FramesRead.{all_more, joined_more}

-- ---- what is kept

cond_same : {A : Type 0} (b : Bool) (x : A) {y z : A} → y ≡ z → cond b x y ≡ cond b x z
cond_same b x e = ap (cond b x) e

kind_with : (m : ℕ) (bs cs : List Begun) (own : Option RequestKind) → begun_kind m (bs ++ cs) own ≡ begun_kind m bs (begun_kind m cs own)
kind_with m [] cs own = refl
kind_with m (b ∷ bs) cs own = cond_same (b.number == m) b.kind (kind_with m bs cs own)

-- one without the message of a RequestId, by whether this is it
same_step : (n : ℕ) (b : Begun) (bs : List Begun) (own : Option RequestKind) (t : Bool) → (b.number == n) ≡ t → begun_kind n bs own ≡ own
    → begun_kind n (cond (not t) (b ∷ bs) bs) own ≡ own
same_step n b bs own true e h = h
same_step n b bs own false e h = ap (λ (t : Bool). cond t b.kind (begun_kind n bs own)) e ∙ h

kind_without : (n : ℕ) (bs : List Begun) (own : Option RequestKind) → begun_kind n (filter (λ (b : Begun). not (b.number == n)) bs) own ≡ own
kind_without n [] own = refl
kind_without n (b ∷ bs) own = same_step n b (filter (λ (c : Begun). not (c.number == n)) bs) own (b.number == n) refl (kind_without n bs own)

other_step : (n m : ℕ) (b : Begun) (bs cs : List Begun) (own : Option RequestKind) (t : Bool) → (n == m) ≡ false → (b.number == n) ≡ t
    → begun_kind m cs own ≡ begun_kind m bs own → begun_kind m (cond (not t) (b ∷ cs) cs) own ≡ begun_kind m (b ∷ bs) own
other_step n m b bs cs own true other e h =
    let unlike : (b.number == m) ≡ false = ap (λ (k : ℕ). k == m) (eqb-true b.number n e) ∙ other in
    h ∙ sym (ap (λ (t : Bool). cond t b.kind (begun_kind m bs own)) unlike)
other_step n m b bs cs own false other e h = cond_same (b.number == m) b.kind h

kind_others : (n m : ℕ) (bs : List Begun) (own : Option RequestKind) → (n == m) ≡ false
    → begun_kind m (filter (λ (b : Begun). not (b.number == n)) bs) own ≡ begun_kind m bs own
kind_others n m [] own other = refl
kind_others n m (b ∷ bs) own other = other_step n m b bs (filter (λ (c : Begun). not (c.number == n)) bs) own (b.number == n) other refl
    (kind_others n m bs own other)

one_other : (more : Bool) (n m : ℕ) (kind own : Option RequestKind) → (n == m) ≡ false → begun_kind m (begun_if more n kind) own ≡ own
one_other true n m kind own other = ap (λ (t : Bool). cond t kind own) other
one_other false n m kind own other = refl

-- of another RequestId
after_other : (more : Bool) (n m : ℕ) (kind : Option RequestKind) (bs : List Begun) (own : Option RequestKind) → (n == m) ≡ false
    → begun_kind m (begun_after more n kind bs) own ≡ begun_kind m bs own
after_other more n m kind bs own other =
    kind_with m (filter (λ (b : Begun). not (b.number == n)) bs) (begun_if more n kind) own
    ∙ (kind_others n m bs (begun_kind m (begun_if more n kind) own) other ∙ ap (begun_kind m bs) (one_other more n m kind own other))

-- of its own
after_end : (n : ℕ) (kind : Option RequestKind) (bs : List Begun) (own : Option RequestKind) → begun_kind n (begun_after false n kind bs) own ≡ own
after_end n kind bs own = kind_with n (filter (λ (b : Begun). not (b.number == n)) bs) [] own ∙ kind_without n bs own

after_more : (n : ℕ) (kind : Option RequestKind) (bs : List Begun) (own : Option RequestKind) → begun_kind n (begun_after true n kind bs) own ≡ kind
after_more n kind bs own =
    kind_with n (filter (λ (b : Begun). not (b.number == n)) bs) (begun_if true n kind) own
    ∙ (kind_without n bs (begun_kind n (begun_if true n kind) own) ∙ ap (λ (t : Bool). cond t kind own) (eq-eqb n n refl))

-- ---- the chunks of a message, with one frame more

chunks_unless : (m : ℕ) (before : List (List ℕ)) (f : List ℕ) → is_chunk_of m f ≡ false → unfinished_chunks m (before ++ f ∷ []) ≡ unfinished_chunks m before
chunks_unless m before f h =
    ap (after_last is_last) (filter_push (is_chunk_of m) before f ∙ (ap (λ b. filter (is_chunk_of m) before ++ cond b (f ∷ []) []) h ∙ append-nil
    (filter (is_chunk_of m) before)))

chunks_with : (m : ℕ) (before : List (List ℕ)) (f : List ℕ) → is_chunk_of m f ≡ true
    → unfinished_chunks m (before ++ f ∷ []) ≡ cond (is_last f) [] (unfinished_chunks m before ++ f ∷ [])
chunks_with m before f h =
    ap (after_last is_last) (filter_push (is_chunk_of m) before f ∙ ap (λ b. filter (is_chunk_of m) before ++ cond b (f ∷ []) []) h)
    ∙ after_last_push is_last (filter (is_chunk_of m) before) f

first_with : (us : List (List ℕ)) (f : List ℕ) (own : Option RequestKind) → first_kind (us ++ f ∷ []) own ≡ first_kind us (chunk_kind_at (id_place f) f)
first_with [] f own = refl
first_with (u ∷ us) f own = refl

chunk_is : (m place : ℕ) (f : List ℕ) → kind_of f ≡ Some Msg → id_place f ≡ Some place → is_chunk_of m f ≡ (number_from place f == m)
chunk_is m place f kind at = ap (λ k. is_chunk_by m k (id_place f) f) kind ∙ ap (λ p. is_chunk_by m (Some Msg) p f) at

by_id : (n m : ℕ) (t : Bool) → (n == m) ≡ t → (begun : List Begun) (before : List (List ℕ)) (f : List ℕ) (kind : Option RequestKind) (more : Bool)
    → AreBegun begun before → is_chunk_of m f ≡ t → is_last f ≡ not more
    → kind ≡ request_message_kind before n (chunk_kind_at (id_place f) f) → (own : Option RequestKind)
    → begun_kind m (begun_after more n kind begun) own ≡ request_message_kind (before ++ f ∷ []) m own
by_id n m false other begun before f kind more h chunk last is own =
    after_other more n m kind begun own other ∙ (h m own ∙ ap (λ (us : List (List ℕ)). first_kind us own) (sym (chunks_unless m before f chunk)))
by_id n m true same begun before f kind true h chunk last is own =
    let here : n ≡ m = eqb-true n m same in
    let us : unfinished_chunks m (before ++ f ∷ []) ≡ unfinished_chunks m before ++ f ∷ [] = chunks_with m before f
    chunk ∙ ap (λ b. cond b [] (unfinished_chunks m before ++ f ∷ [])) last in
    ap (λ (k : ℕ). begun_kind k (begun_after true n kind begun) own) (sym here)
    ∙ (after_more n kind begun own
    ∙ (is
    ∙ (ap (λ (k : ℕ). request_message_kind before k (chunk_kind_at (id_place f) f)) here
    ∙ (sym (first_with (unfinished_chunks m before) f own) ∙ ap (λ (t : List (List ℕ)). first_kind t own) (sym us)))))
by_id n m true same begun before f kind false h chunk last is own =
    let here : n ≡ m = eqb-true n m same in
    let us : unfinished_chunks m (before ++ f ∷ []) ≡ [] = chunks_with m before f chunk ∙ ap (λ b. cond b [] (unfinished_chunks m before ++ f ∷ [])) last in
    ap (λ (k : ℕ). begun_kind k (begun_after false n kind begun) own) (sym here)
    ∙ (after_end n kind begun own ∙ ap (λ (t : List (List ℕ)). first_kind t own) (sym us))

-- a chunk of a MSG
pub begun_more : (begun : List Begun) (before : List (List ℕ)) (f : List ℕ) (place : ℕ) (kind : Option RequestKind) (more : Bool) → kind_of f ≡ Some Msg
    → id_place f ≡ Some place → is_last f ≡ not more → AreBegun begun before
    → kind ≡ begun_kind (number_from place f) begun (chunk_kind place f) → AreBegun (begun_after more (number_from place f) kind begun) (before ++ f ∷ [])
begun_more begun before f place kind more is_msg at last h is = λ m own.
    by_id (number_from place f) m (number_from place f == m) refl begun before f kind more h (chunk_is m place f is_msg at) last
    (is ∙ (h (number_from place f) (chunk_kind place f) ∙ ap (λ p. request_message_kind before (number_from place f) (chunk_kind_at p f)) (sym at))) own

-- the bytes of a frame from a place on, as a slice has them
pub kind_from : (f : List ℕ) (place : ℕ) (own : Option RequestKind) → own ≡ request_kind_of (take (length f - (place + 4)) (drop (place + 4) f))
    → own ≡ chunk_kind place f
kind_from f place own is = is ∙ ap request_kind_of (take_all (length f - (place + 4)) (drop (place + 4) f) (omega (arith, length-drop (place + 4) f)))

-- the same by what the steps give
pub kept_begun : (begun slice left : List Begun) (before : List (List ℕ)) (f : List ℕ) (place number : ℕ) (own kind : Option RequestKind) (more : Bool)
    → kind_of f ≡ Some Msg → id_place f ≡ Some place → is_last f ≡ not more → number ≡ number_from place f
    → own ≡ chunk_kind place f → slice ≡ begun → kind ≡ begun_kind number slice own → left ≡ begun_after more number kind begun → AreBegun begun before
    → AreBegun left (before ++ f ∷ [])
kept_begun begun slice left before f place number own kind more is_msg at last number_is own_is slice_is kind_is left_is h =
    let kind_now : kind ≡ begun_kind (number_from place f) begun (chunk_kind place f) =
    kind_is
    ∙ (ap (λ (n : ℕ). begun_kind n slice own) number_is
    ∙ (ap (λ (b : List Begun). begun_kind (number_from place f) b own) slice_is ∙ ap (begun_kind (number_from place f) begun) own_is)) in
    subst (λ (l : List Begun). AreBegun l (before ++ f ∷ [])) (sym (left_is ∙ ap (λ (n : ℕ). begun_after more n kind begun) number_is))
    (begun_more begun before f place kind more is_msg at last h kind_now)

-- ---- as far as the frames were read

-- the frames before the rest sent these requests, and left these messages unfinished
pub record SentTo (octets rest : List ℕ) (requests : List Named) (begun : List Begun) : Type 0 where
  pub frames : List (List ℕ)
  pub whole : octets ≡ joined_parts frames ++ rest
  pub each : AllByRecursion IsRawFrame frames
  pub requests_are : requests ≡ each_after (λ before frame. option_to_list (request_in before frame)) frames
  pub begun_are : AreBegun begun frames

pub sent_none : (octets : List ℕ) (requests : List Named) (begun : List Begun) → requests ≡ [] → begun ≡ [] → SentTo octets octets requests begun
unfolding each_after
sent_none octets requests begun none empty = record {
  frames = [];
  whole = sym (joined-nil octets);
  each = tt;
  requests_are = none;
  begun_are = λ number own. ap (λ (b : List Begun). begun_kind number b own) empty;
}

-- the place where a frame ends
pub end_place : (octets rest frame more : List ℕ) (requests : List Named) (begun : List Begun) (s : SentTo octets rest requests begun) → rest ≡ frame ++ more
    → length octets - length more ≡ length (joined_parts s.frames) + length frame
end_place octets rest frame more requests begun s parts = omega (
  arith,
  ap length s.whole,
  length-append (joined_parts s.frames) rest,
  ap length
      parts,
  length-append frame more,
)

pub sent_shorter : (octets rest frame more : List ℕ) (requests : List Named) (begun : List Begun) → SentTo octets rest requests begun → rest ≡ frame ++ more
    → length more ≤ length octets
sent_shorter octets rest frame more requests begun s parts = omega (
  arith,
  ap length s.whole,
  length-append (joined_parts s.frames) rest,
  ap length
      parts,
  length-append frame more,
)

pub sent_more : (octets rest frame more : List ℕ) (requests new : List Named) (begun left : List Begun) (s : SentTo octets rest requests begun)
    → rest ≡ frame ++ more → IsRawFrame frame
    → new ≡ requests ++ option_to_list (request_in s.frames frame) → AreBegun left (s.frames ++ frame ∷ []) → SentTo octets more new left
sent_more octets rest frame more requests new begun left s parts raw added kept = record {
  frames = s.frames ++ frame ∷ [];
  whole = s.whole ∙ (ap (λ (t : List ℕ). joined_parts s.frames ++ t) parts ∙ sym (joined_more s.frames frame more));
  each = all_more IsRawFrame s.frames frame s.each raw;
  requests_are =
      added
      ∙ (ap (λ (t : List Named). t ++ option_to_list (request_in s.frames frame))
      s.requests_are ∙ sym (each_after-push (λ before f. option_to_list (request_in before f)) s.frames frame));
  begun_are = kept;
}

pub sent_all : (octets rest : List ℕ) (requests : List Named) (begun : List Begun) (s : SentTo octets rest requests begun) → IsRest rest
    → Frames octets s.frames rest
sent_all octets rest requests begun s partial = record { whole = s.whole; each = s.each; partial = partial }
