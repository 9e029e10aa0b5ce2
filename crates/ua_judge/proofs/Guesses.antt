-- The marks of a record without an order, one frame of the server after the other.
use Prim.Native.Nat.compare
use lib.Dec.{is_le}
use Rattle.std.proofs.Common.{◌≡◌, ℕ, zero, suc, ◌+◌, ◌-◌, ◌≤◌, Bool, true, false, cond, not, List, [], ◌∷◌, ◌++◌, length, take, drop, map, Option, Some, None}
use Rattle.std.proofs.Common.{refl, sym, ◌∙◌, ap, subst, arith, append-nil, append_assoc, length-append}
use Rattle.std.specs.Prelude.{◌==◌, ◌||◌, is_some, nat_lt, option_map, option_to_list}
use Rattle.std.specs.List.{AllByRecursion, filter, list_any, position_or_len}
use Rattle.std.proofs.lemmas.Bool.{eq-eqb, eqb-true}
use Rattle.std.proofs.lemmas.List.{drop-drop, length-drop, take_all}
use Rattle.std.proofs.lemmas.List.Folds.{list_any-append}
use Rattle.ua_chunk.specs.Gathered.{after_last}
use Rattle.ua_chunk.proofs.Lists.{after_last_push, filter_push}
use Rattle.ua_frame.specs.After.{each_after}
use Rattle.ua_frame.specs.Frames.{IsRawFrame, IsRest, joined_parts}
use Rattle.ua_frame.proofs.Afters.{each_after-push}
use Rattle.ua_frame.proofs.RawFrames.{joined-nil}
use Rattle.ua_judge.specs.Agreed.{IsFirst, head_of}
use Rattle.ua_judge.specs.Guessed.{AreReplyStarts, ReplyStart, begun_id, begun_id_at, has_id, has_id_at, is_to_any, is_unfinished}
use Rattle.ua_judge.specs.Guessed.{first_mark, first_place, mark_at, replies_from, reply_after, reply_begun, request_marks, unless_to}
use Rattle.ua_judge.specs.Guessing.{AreUnfinished, IsBegunWith, count_to_id, counted_up_to, id_if, ids_after, unfinished_without}
use Rattle.ua_judge.specs.RawFrames.{id_place, number_from}
use Rattle.ua_judge.specs.Requests.{is_last}
use Rattle.ua_judge.specs.declared.mark.Mark.{Mark}
use Rattle.ua_judge.specs.declared.named.Named.{Named}
use Rattle.ua_judge.proofs.FramesRead.{all_more, joined_more}

-- ---- unfinished messages

same_step : (id x : ℕ) (ids : List ℕ) (t : Bool) → (x == id) ≡ t → list_any (λ held. held == id) ids ≡ false
    → list_any (λ held. held == id) (cond (not t) (x ∷ ids) ids) ≡ false
same_step id x ids true e h = h
same_step id x ids false e h = ap (λ (t : Bool). t || list_any (λ held. held == id) ids) e ∙ h

any_without : (id : ℕ) (ids : List ℕ) → list_any (λ held. held == id) (unfinished_without id ids) ≡ false
any_without id [] = refl
any_without id (x ∷ ids) = same_step id x (unfinished_without id ids) (x == id) refl (any_without id ids)

other_step : (id m x : ℕ) (ids less : List ℕ) (t : Bool) → (id == m) ≡ false → (x == id) ≡ t
    → list_any (λ held. held == m) less ≡ list_any (λ held. held == m) ids
    → list_any (λ held. held == m) (cond (not t) (x ∷ less) less) ≡ list_any (λ held. held == m) (x ∷ ids)
other_step id m x ids less true other e h =
    let unlike : (x == m) ≡ false = ap (λ (k : ℕ). k == m) (eqb-true x id e) ∙ other in
    h ∙ sym (ap (λ (t : Bool). t || list_any (λ held. held == m) ids) unlike)
other_step id m x ids less false other e h = ap (λ (t : Bool). (x == m) || t) h

any_others : (id m : ℕ) (ids : List ℕ) → (id == m) ≡ false → list_any (λ held. held == m) (unfinished_without id ids) ≡ list_any (λ held. held == m) ids
any_others id m [] other = refl
any_others id m (x ∷ ids) other = other_step id m x ids (unfinished_without id ids) (x == id) other refl (any_others id m ids other)

or_none : (b : Bool) → (b || false) ≡ b
or_none true = refl
or_none false = refl

any_if : (more : Bool) (id m : ℕ) → list_any (λ held. held == m) (id_if more id) ≡ cond more (id == m) false
any_if true id m = or_none (id == m)
any_if false id m = refl

cond_false : (b : Bool) → cond b false false ≡ false
cond_false true = refl
cond_false false = refl

cond_true : (b : Bool) → cond b true false ≡ b
cond_true true = refl
cond_true false = refl

-- of another id
kept_other : (more : Bool) (id m : ℕ) (ids : List ℕ) → (id == m) ≡ false
    → list_any (λ held. held == m) (unfinished_without id ids ++ id_if more id) ≡ list_any (λ held. held == m) ids
kept_other more id m ids other =
    list_any-append (λ held. held == m) (unfinished_without id ids) (id_if more id)
    ∙ (ap (λ (t : Bool). list_any (λ held. held == m) (unfinished_without id ids) || t) (any_if more id m
    ∙ (ap (λ (t : Bool). cond more t false) other ∙ cond_false more))
    ∙ (or_none (list_any (λ held. held == m) (unfinished_without id ids)) ∙ any_others id m ids other))

-- of its own
kept_own : (more : Bool) (id : ℕ) (ids : List ℕ) → list_any (λ held. held == id) (unfinished_without id ids ++ id_if more id) ≡ more
kept_own more id ids =
    list_any-append (λ held. held == id) (unfinished_without id ids) (id_if more id)
    ∙ (ap (λ (t : Bool). t || list_any (λ held. held == id) (id_if more id)) (any_without id ids)
    ∙ (any_if more id id ∙ (ap (λ (t : Bool). cond more t false) (eq-eqb id id refl) ∙ cond_true more)))

-- frames, with one more of another id
unfinished_other : (m : ℕ) (before : List (List ℕ)) (f : List ℕ) → has_id m f ≡ false → is_unfinished m (before ++ f ∷ []) ≡ is_unfinished m before
unfinished_other m before f h =
    ap (λ (t : List (List ℕ)). is_some (head_of (after_last is_last t)))
    (filter_push (has_id m) before f ∙ (ap (λ b. filter (has_id m) before ++ cond b (f ∷ []) []) h ∙ append-nil (filter (has_id m) before)))

some_front : (us : List (List ℕ)) (f : List ℕ) (last : Bool) → is_some (head_of (cond last [] (us ++ f ∷ []))) ≡ not last
some_front us f true = refl
some_front [] f false = refl
some_front (u ∷ us) f false = refl

-- of its own id
unfinished_own : (m : ℕ) (before : List (List ℕ)) (f : List ℕ) → has_id m f ≡ true → is_unfinished m (before ++ f ∷ []) ≡ not (is_last f)
unfinished_own m before f h =
    ap (λ (t : List (List ℕ)). is_some (head_of (after_last is_last t)))
    (filter_push (has_id m) before f ∙ ap (λ b. filter (has_id m) before ++ cond b (f ∷ []) []) h)
    ∙ (ap (λ (t : List (List ℕ)). is_some (head_of t)) (after_last_push is_last (filter (has_id m) before) f)
    ∙ some_front (after_last is_last (filter (has_id m) before)) f (is_last f))

not_not : (b : Bool) → not (not b) ≡ b
not_not true = refl
not_not false = refl

by_id : (id m : ℕ) (t : Bool) (ids : List ℕ) (before : List (List ℕ)) (f : List ℕ) (more : Bool) → (id == m) ≡ t → has_id m f ≡ t
    → is_last f ≡ not more → list_any (λ held. held == m) ids ≡ is_unfinished m before
    → list_any (λ held. held == m) (unfinished_without id ids ++ id_if more id) ≡ is_unfinished m (before ++ f ∷ [])
by_id id m false ids before f more other has flag h = kept_other more id m ids other ∙ (h ∙ sym (unfinished_other m before f has))
by_id id m true ids before f more same has flag h =
    ap (λ (k : ℕ). list_any (λ held. held == k) (unfinished_without id ids ++ id_if more id)) (sym (eqb-true id m same))
    ∙ (kept_own more id ids ∙ sym (unfinished_own m before f has ∙ (ap not flag ∙ not_not more)))

-- a frame with one
unfinished_more : (ids : List ℕ) (before : List (List ℕ)) (f : List ℕ) (place id : ℕ) (more : Bool) → id_place f ≡ Some place → id ≡ number_from place f
    → is_last f ≡ not more → AreUnfinished ids before → AreUnfinished (ids_after more id ids) (before ++ f ∷ [])
unfinished_more ids before f place id more at is flag h = λ m.
    by_id id m (id == m) ids before f more refl (ap (λ p. has_id_at m p f) at ∙ ap (λ (k : ℕ). k == m) (sym is)) flag (h m)

pub unfinished_kept : (ids left : List ℕ) (before : List (List ℕ)) (f : List ℕ) (place id : ℕ) (more : Bool) → id_place f ≡ Some place
    → id ≡ number_from place f
    → is_last f ≡ not more → left ≡ ids_after more id ids → AreUnfinished ids before → AreUnfinished left (before ++ f ∷ [])
unfinished_kept ids left before f place id more at is flag left_is h =
    subst (λ (l : List ℕ). AreUnfinished l (before ++ f ∷ [])) (sym left_is) (unfinished_more ids before f place id more at is flag h)

-- whether a message begins with it
pub begun_new : (ids : List ℕ) (before : List (List ℕ)) (f : List ℕ) (place id : ℕ) → id_place f ≡ Some place → id ≡ number_from place f
    → list_any (λ held. held == id) ids ≡ false → AreUnfinished ids before → Some id ≡ begun_id before f
begun_new ids before f place id at is none h =
    let new : is_unfinished (number_from place f) before ≡ false = ap (λ (k : ℕ). is_unfinished k before) (sym is) ∙ (sym (h id) ∙ none) in
    ap Some is ∙ (ap (λ b. cond b None (Some (number_from place f))) (sym new) ∙ ap (λ p. begun_id_at before p f) (sym at))

pub begun_old : (ids : List ℕ) (before : List (List ℕ)) (f : List ℕ) (place id : ℕ) → id_place f ≡ Some place → id ≡ number_from place f
    → list_any (λ held. held == id) ids ≡ true → AreUnfinished ids before → None ≡ begun_id before f
begun_old ids before f place id at is some h =
    let old : is_unfinished (number_from place f) before ≡ true = ap (λ (k : ℕ). is_unfinished k before) (sym is) ∙ (sym (h id) ∙ some) in
    ap (λ b. cond b None (Some (number_from place f))) (sym old) ∙ ap (λ p. begun_id_at before p f) (sym at)

-- ---- the marks

-- a reply to none of the requests
step_none : (all : ℕ) (requests : List Named) (reply : ReplyStart) (later : List ReplyStart) → is_to_any requests reply ≡ false
    → request_marks all requests (reply ∷ later) ≡ request_marks all requests later
step_none all [] reply later none = refl
step_none all (r ∷ rs) reply later none =
    ap (λ (t : List ReplyStart). mark_at (first_place all t) r ∷ request_marks all rs (unless_to r.number t))
    (ap (λ b. cond b (reply ∷ later) (replies_from (r ∷ rs) later)) none)

-- a reply to one of them
step_to : (all : ℕ) (r : Named) (rs : List Named) (reply : ReplyStart) (later : List ReplyStart) → is_to_any (r ∷ rs) reply ≡ true
    → request_marks all (r ∷ rs) (reply ∷ later) ≡ mark_at reply.place r ∷ request_marks all rs (cond (r.number == reply.id) later (reply ∷ later))
step_to all r rs reply later to =
    ap (λ (t : List ReplyStart). mark_at (first_place all t) r ∷ request_marks all rs (unless_to r.number t))
    (ap (λ b. cond b (reply ∷ later) (replies_from (r ∷ rs) later)) to)

-- how many requests are sent before a reply, by recursion
abbrev count_before : ℕ → List Named → ℕ
count_before id [] = 0
count_before id (r ∷ rs) = cond (r.number == id) 1 (cond (list_any (λ (s : Named). s.number == id) rs) (suc (count_before id rs)) 0)

one_more : (n : ℕ) → 1 + n ≡ suc n
one_more n = omega arith

less_suc : (a b : ℕ) → nat_lt (suc a) (suc b) ≡ nat_lt a b
less_suc a b = ap is_le (compare.suc-suc (suc a) b)

zero_less : (n : ℕ) → nat_lt 0 (suc n) ≡ true
zero_less zero = refl
zero_less (suc n) = ap is_le (compare.suc-suc 0 (suc n)) ∙ ap is_le (compare.zero-suc n)

-- it is the count up to the first one
position_in : (id : ℕ) (rs : List Named) → nat_lt (position_or_len (λ (s : Named). s.number == id) rs) (length rs) ≡ list_any (λ (s : Named). s.number == id) rs
position_in id [] = refl
position_in id (r ∷ rs) = position_step (r.number == id) id rs (position_in id rs)
  where
    position_step : (b : Bool) (id : ℕ) (rs : List Named)
        → nat_lt (position_or_len (λ (s : Named). s.number == id) rs) (length rs) ≡ list_any (λ (s : Named). s.number == id) rs
        → nat_lt (cond (not b) (1 + position_or_len (λ (s : Named). s.number == id) rs) 0) (suc (length rs))
        ≡ (b || list_any (λ (s : Named). s.number == id) rs)
    position_step true id rs h = zero_less (length rs)
    position_step false id rs h = ap (λ (n : ℕ). nat_lt n (suc (length rs))) (one_more (position_or_len (λ (s : Named). s.number == id) rs))
        ∙ (less_suc (position_or_len (λ (s : Named). s.number == id) rs) (length rs) ∙ h)

count_more : (t : Bool) (id : ℕ) (rs : List Named) → nat_lt (position_or_len (λ (s : Named). s.number == id) rs) (length rs) ≡ t
    → count_to_id id rs ≡ count_before id rs
    → counted_up_to (cond t (Some (1 + position_or_len (λ (s : Named). s.number == id) rs)) None) ≡ cond t (suc (count_before id rs)) 0
count_more true id rs found h =
    let here : suc (position_or_len (λ (s : Named). s.number == id) rs) ≡ count_before id rs =
    ap (λ (t : Bool). counted_up_to (cond t (Some (position_or_len (λ (s : Named). s.number == id) rs)) None)) (sym found) ∙ h in
    ap suc (one_more (position_or_len (λ (s : Named). s.number == id) rs) ∙ here)
count_more false id rs found h = refl

count_step : (b : Bool) (id : ℕ) (rs : List Named) → count_to_id id rs ≡ count_before id rs
    → counted_up_to (cond (nat_lt (cond (not b) (1 + position_or_len (λ (s : Named). s.number == id) rs) 0) (suc (length rs)))
    (Some (cond (not b) (1 + position_or_len (λ (s : Named). s.number == id) rs) 0)) None)
    ≡ cond b 1 (cond (list_any (λ (s : Named). s.number == id) rs) (suc (count_before id rs)) 0)
count_step true id rs h = ap (λ (t : Bool). counted_up_to (cond t (Some 0) None)) (zero_less (length rs))
count_step false id rs h =
    let n = position_or_len (λ (s : Named). s.number == id) rs in
    ap (λ (k : ℕ). counted_up_to (cond (nat_lt k (suc (length rs))) (Some (1 + n)) None)) (one_more n)
    ∙ (ap (λ (t : Bool). counted_up_to (cond t (Some (1 + n)) None)) (less_suc n (length rs) ∙ position_in id rs)
    ∙ count_more (list_any (λ (s : Named). s.number == id) rs) id rs (position_in id rs) h)

count_is : (id : ℕ) (rs : List Named) → count_to_id id rs ≡ count_before id rs
count_is id [] = refl
count_is id (r ∷ rs) = count_step (r.number == id) id rs (count_is id rs)

-- the marks of the requests up to the first one that a reply is to, and of those after it
abbrev pub stepped : ℕ → List Named → ReplyStart → List ReplyStart → ℕ → List Mark
stepped all requests reply later n = map (mark_at reply.place) (take n requests) ++ request_marks all (drop n requests) later

front_step : (all : ℕ) (r : Named) (rs : List Named) (reply : ReplyStart) (later : List ReplyStart) (b t : Bool) → (r.number == reply.id) ≡ b
    → list_any (λ (s : Named). s.number == reply.id) rs ≡ t
    → request_marks all rs (reply ∷ later) ≡ stepped all rs reply later (count_before reply.id rs)
    → request_marks all (r ∷ rs) (reply ∷ later) ≡ stepped all (r ∷ rs) reply later (cond b 1 (cond t (suc (count_before reply.id rs)) 0))
front_step all r rs reply later true t own more h =
    step_to all r rs reply later (ap (λ b. b || list_any (λ (s : Named). s.number == reply.id) rs) own)
    ∙ ap (λ b. mark_at reply.place r ∷ request_marks all rs (cond b later (reply ∷ later))) own
front_step all r rs reply later false true own more h =
    step_to all r rs reply later (ap (λ b. b || list_any (λ (s : Named). s.number == reply.id) rs) own ∙ more)
    ∙ (ap (λ b. mark_at reply.place r ∷ request_marks all rs (cond b later (reply ∷ later))) own ∙ ap (λ (t : List Mark). mark_at reply.place r ∷ t) h)
front_step all r rs reply later false false own more h =
    step_none all (r ∷ rs) reply later (ap (λ b. b || list_any (λ (s : Named). s.number == reply.id) rs) own ∙ more)

marks_before : (all : ℕ) (requests : List Named) (reply : ReplyStart) (later : List ReplyStart)
    → request_marks all requests (reply ∷ later) ≡ stepped all requests reply later (count_before reply.id requests)
marks_before all [] reply later = refl
marks_before all (r ∷ rs) reply later =
    front_step all r rs reply later (r.number == reply.id) (list_any (λ (s : Named). s.number == reply.id) rs) refl refl (marks_before all rs reply later)

marks_step : (all : ℕ) (requests : List Named) (reply : ReplyStart) (later : List ReplyStart)
    → request_marks all requests (reply ∷ later) ≡ stepped all requests reply later (count_to_id reply.id requests)
marks_step all requests reply later =
    marks_before all requests reply later ∙ ap (stepped all requests reply later) (sym (count_is reply.id requests))

-- no reply is left
marks_end : (all : ℕ) (requests : List Named) → request_marks all requests [] ≡ map (mark_at all) requests
marks_end all [] = refl
marks_end all (r ∷ rs) = ap (λ (t : List Mark). mark_at all r ∷ t) (marks_end all rs)

-- ---- as far as the frames were read

-- the frames of a server before the rest leave these messages unfinished, and these marks are those of as many
-- requests: whatever replies follow, the marks of the others come after them
pub record GuessedTo (up : List ℕ) (requests : List Named) (octets rest : List ℕ) (ids : List ℕ) (sent : ℕ) (marks : List Mark) : Type 0 where
  pub first : Option (List ℕ)
  pub is_first : IsFirst up first
  pub frames : List (List ℕ)
  pub whole : octets ≡ joined_parts frames ++ rest
  pub each : AllByRecursion IsRawFrame frames
  pub ids_are : AreUnfinished ids frames
  pub within : sent ≤ length requests
  pub marks_are : (later : List ReplyStart) → first_mark first ++ request_marks (length octets) requests (each_after reply_begun frames ++ later)
      ≡ marks ++ request_marks (length octets) (drop sent requests) later

pub guessed_none : (up : List ℕ) (requests : List Named) (octets ids : List ℕ) (marks : List Mark) → ids ≡ [] → IsBegunWith up marks
    → GuessedTo up requests octets octets ids 0 marks
unfolding each_after
guessed_none up requests octets ids marks none b = record {
  first = b.first;
  is_first = b.is_first;
  frames = [];
  whole = sym (joined-nil octets);
  each = tt;
  ids_are = λ id. ap (list_any (λ held. held == id)) none;
  within = omega arith;
  marks_are = λ later. ap (λ (t : List Mark). t ++ request_marks (length octets) requests later) (sym b.marks_are);
}

-- the place where a frame begins
begin_place : (octets rest : List ℕ) (frames : List (List ℕ)) → octets ≡ joined_parts frames ++ rest
    → length octets - length rest ≡ length (joined_parts frames)
begin_place octets rest frames whole = omega (arith, ap length whole, length-append (joined_parts frames) rest)

module _ (up : List ℕ) (requests : List Named) (octets rest frame more ids left : List ℕ) (sent : ℕ) (marks : List Mark)
    (g : GuessedTo up requests octets rest ids sent marks) (parts : rest ≡ frame ++ more) (raw : IsRawFrame frame)
    (kept : AreUnfinished left (g.frames ++ frame ∷ [])) where
  all_whole : octets ≡ joined_parts (g.frames ++ frame ∷ []) ++ more
  all_whole = g.whole ∙ (ap (λ (t : List ℕ). joined_parts g.frames ++ t) parts ∙ sym (joined_more g.frames frame more))

  replies_with : (rs later : List ReplyStart) → reply_begun g.frames frame ≡ rs
      → each_after reply_begun (g.frames ++ frame ∷ []) ++ later ≡ each_after reply_begun g.frames ++ (rs ++ later)
  replies_with rs later is =
      ap (λ (t : List ReplyStart). t ++ later) (each_after-push reply_begun g.frames frame
      ∙ ap (λ (t : List ReplyStart). each_after reply_begun g.frames ++ t) is)
      ∙ append_assoc (each_after reply_begun g.frames) rs later

  -- no reply begins
  pub guessed_on : None ≡ begun_id g.frames frame → GuessedTo up requests octets more left sent marks
  guessed_on none = record {
    first = g.first;
    is_first = g.is_first;
    frames = g.frames ++ frame ∷ [];
    whole = all_whole;
    each = all_more IsRawFrame g.frames frame g.each raw;
    ids_are = kept;
    within = g.within;
    marks_are = λ later.
        ap (λ (t : List ReplyStart). first_mark g.first ++ request_marks (length octets) requests t)
        (replies_with [] later (ap (λ (o : Option ℕ). option_to_list (option_map (reply_after g.frames) o)) (sym none)))
        ∙ g.marks_are later;
  }

  -- a reply begins
  pub guessed_more : (id next : ℕ) (new : List Mark) → Some id ≡ begun_id g.frames frame → next ≡ sent + count_to_id id (drop sent requests)
      → next ≤ length requests → new ≡ marks ++ map (mark_at (length octets - length rest)) (take (next - sent) (drop sent requests))
      → GuessedTo up requests octets more left next new
  guessed_more id next new some next_is within new_is =
      let reply : ReplyStart = reply_after g.frames id in
      let n : ℕ = count_to_id id (drop sent requests) in
      let behind : drop n (drop sent requests) ≡ drop next requests = drop-drop n sent requests ∙ ap (λ (k : ℕ). drop k requests) (omega (arith, next_is)) in
      let few : next - sent ≡ n = omega (arith, next_is) in
      let now : new ≡ marks ++ map (mark_at reply.place) (take n (drop sent requests)) =
      new_is ∙ (ap (λ (k : ℕ). marks ++ map (mark_at k) (take (next - sent) (drop sent requests))) (begin_place octets rest g.frames g.whole)
      ∙ ap (λ (k : ℕ). marks ++ map (mark_at reply.place) (take k (drop sent requests))) few) in
      record {
        first = g.first;
        is_first = g.is_first;
        frames = g.frames ++ frame ∷ [];
        whole = all_whole;
        each = all_more IsRawFrame g.frames frame g.each raw;
        ids_are = kept;
        within = within;
        marks_are = λ later.
            ap (λ (t : List ReplyStart). first_mark g.first ++ request_marks (length octets) requests t)
            (replies_with (reply ∷ []) later (ap (λ (o : Option ℕ). option_to_list (option_map (reply_after g.frames) o)) (sym some)))
            ∙ (g.marks_are (reply ∷ later)
            ∙ (ap (λ (t : List Mark). marks ++ t) (marks_step (length octets) (drop sent requests) reply later)
            ∙ (sym (append_assoc marks (map (mark_at reply.place) (take n (drop sent requests)))
            (request_marks (length octets) (drop n (drop sent requests)) later))
            ∙ (ap (λ (t : List Mark). t ++ request_marks (length octets) (drop n (drop sent requests)) later) (sym now)
            ∙ ap (λ (t : List Named). new ++ request_marks (length octets) t later) behind))));
      }

-- all frames were read
pub guessed_all : (up : List ℕ) (requests : List Named) (octets rest ids : List ℕ) (sent : ℕ) (marks new : List Mark)
    (g : GuessedTo up requests octets rest ids sent marks) → new ≡ marks ++ map (mark_at (length octets)) (drop sent requests)
    → new ≡ first_mark g.first ++ request_marks (length octets) requests (each_after reply_begun g.frames)
guessed_all up requests octets rest ids sent marks new g new_is =
    new_is
    ∙ (ap (λ (t : List Mark). marks ++ t) (sym (marks_end (length octets) (drop sent requests)))
    ∙ (sym (g.marks_are []) ∙ ap (λ (t : List ReplyStart). first_mark g.first ++ request_marks (length octets) requests t)
    (append-nil (each_after reply_begun g.frames))))

pub replies_read : (up : List ℕ) (requests : List Named) (octets rest ids : List ℕ) (sent : ℕ) (marks : List Mark)
    (g : GuessedTo up requests octets rest ids sent marks) → IsRest rest → AreReplyStarts octets (each_after reply_begun g.frames)
replies_read up requests octets rest ids sent marks g partial =
    record { frames = g.frames; rest = rest; framed = record { whole = g.whole; each = g.each; partial = partial }; replies_are = refl }

-- a slice to the end
pub slice_behind : {A : Type 0} (xs ys : List A) (n : ℕ) → ys ≡ xs → take (length ys - n) (drop n ys) ≡ drop n xs
slice_behind xs ys n same = ap (λ t. take (length t - n) (drop n t)) same ∙ take_all (length xs - n) (drop n xs) (omega (arith, length-drop n xs))

pub slice_within : {A : Type 0} (xs ys : List A) (n k : ℕ) → ys ≡ xs → n ≤ length xs → k ≤ length (take (length ys - n) (drop n ys)) → n + k ≤ length xs
slice_within xs ys n k same le few = omega (arith, le, few, ap length (slice_behind xs ys n same), length-drop n xs)
