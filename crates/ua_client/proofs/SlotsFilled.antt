-- Slots that are filled up with empty ones.
use Rattle.std.specs.Prelude.{◌≡◌, ◌+◌, ◌-◌, ◌<◌, ◌≤◌, ◌++◌, ℕ, zero, suc, true, is_none, List, [], ◌∷◌, map}
use Rattle.std.specs.Prelude.{length, ◌⊎◌, set, take, drop, Option, Some, None, Result, Ok, Err, OnOk, OnErr}
use Rattle.std.specs.List.{list_any}
use Rattle.std.proofs.Common.{refl, sym, ◌∙◌, ap, arith, append-nil, append_assoc, inl, inr}
use Rattle.std.proofs.lemmas.List.{drop-append-le, set-append_left, set-append_right, map-append, length-map, length-drop, drop-set-add, map-set, length-set}
use Rattle.std.proofs.lemmas.List.{length-append, take-append-drop}
use Rattle.ua_services.specs.declared.request.Request.{Request}
use Rattle.ua_client.specs.Calls.{none_for}
use Rattle.ua_client.specs.Replies.{front_of}
use Rattle.ua_client.specs.Slots.{GroupReplies, filled_up, group_replies}
use Rattle.ua_client.specs.declared.reply.Reply.{Reply}

-- ---- slots that are filled up

pub filled-length : (n : ℕ) (ss : List (Option Reply)) → length ss ≤ n → length (filled_up n ss) ≡ n
filled-length zero [] few = refl
filled-length zero (s ∷ ss) few = absurd (omega (arith, few))
filled-length (suc n) [] few = ap suc (filled-length n [] (omega arith))
filled-length (suc n) (s ∷ ss) few = ap suc (filled-length n ss (omega (arith, few)))

pub filled-least : (n : ℕ) (ss : List (Option Reply)) → n ≤ length (filled_up n ss)
filled-least zero ss = omega arith
filled-least (suc n) [] = let h = filled-least n [] in omega (arith, h)
filled-least (suc n) (s ∷ ss) = let h = filled-least n ss in omega (arith, h)

-- those of calls that nothing came to
pub slots-empty : (requests : List Request) (n : ℕ) → n ≡ length requests → filled_up n [] ≡ none_for requests
slots-empty requests n is = ap (λ (k : ℕ). filled_up k []) is ∙ each requests
  where
    each : (ms : List Request) → filled_up (length ms) [] ≡ none_for ms
    each [] = refl
    each (m ∷ ms) = ap (λ (rest : List (Option Reply)). None ∷ rest) (each ms)

filled-most : (n m : ℕ) (ss : List (Option Reply)) → n ≤ m → length ss ≤ m → length (filled_up n ss) ≤ m
filled-most zero m ss few less = less
filled-most (suc n) zero ss few less = absurd (omega (arith, few))
filled-most (suc n) (suc m) [] few less = let h = filled-most n m [] (omega (arith, few)) (omega arith) in omega (arith, h)
filled-most (suc n) (suc m) (s ∷ ss) few less = let h = filled-most n m ss (omega (arith, few)) (omega (arith, less)) in omega (arith, h)

pub no-slots : (ss : List (Option Reply)) → length ss ≡ 0 → ss ≡ []
no-slots [] none = refl
no-slots (s ∷ ss) none = absurd (omega (arith, none))

-- there is nothing to fill
pub filled-whole : (n : ℕ) (ss : List (Option Reply)) → n ≤ length ss → filled_up n ss ≡ ss
filled-whole zero ss few = refl
filled-whole (suc n) [] few = absurd (omega (arith, few))
filled-whole (suc n) (s ∷ ss) few = ap (λ (rest : List (Option Reply)). s ∷ rest) (filled-whole n ss (omega (arith, few)))

-- one slot more
pub filled-more : (n : ℕ) (ss : List (Option Reply)) → length ss ≤ n → filled_up n ss ++ None ∷ [] ≡ filled_up (suc n) ss
filled-more zero [] few = refl
filled-more zero (s ∷ ss) few = absurd (omega (arith, few))
filled-more (suc n) [] few = ap (λ (rest : List (Option Reply)). None ∷ rest) (filled-more n [] (omega arith))
filled-more (suc n) (s ∷ ss) few = ap (λ (rest : List (Option Reply)). s ∷ rest) (filled-more n ss (omega (arith, few)))

pub filled-next-slot : (now next ss : List (Option Reply)) → next ≡ now ++ None ∷ [] → now ≡ filled_up (length now) ss → length ss ≤ length now
    → next ≡ filled_up (length next) ss
filled-next-slot now next ss more is least =
    more
    ∙ (ap (λ (rest : List (Option Reply)). rest ++ None ∷ []) is
    ∙ (filled-more (length now) ss least
    ∙ ap (λ (n : ℕ). filled_up n ss) (one (length now) ∙ sym (ap length more ∙ length-append now (None ∷ [])))))
  where
    one : (n : ℕ) → suc n ≡ n + 1
    one n = omega arith

pub filled-reached : (now ss : List (Option Reply)) (index : ℕ) → now ≡ filled_up (length now) ss → (length now ≤ index + 1) ⊎ (now ≡ ss) → index < length now
    → now ≡ filled_up (index + 1) ss
filled-reached now ss index is (inl few) many = is ∙ ap (λ (n : ℕ). filled_up n ss) (omega (arith, few, many))
filled-reached now ss index is (inr same) many = same ∙ sym (filled-whole (index + 1) ss (let n = ap length same in omega (arith, n, many)))

twice : (n m : ℕ) (ss : List (Option Reply)) → m ≤ n → filled_up n (filled_up m ss) ≡ filled_up n ss
twice n zero ss few = refl
twice zero (suc m) ss few = absurd (omega (arith, few))
twice (suc n) (suc m) [] few = ap (λ (rest : List (Option Reply)). None ∷ rest) (twice n m [] (omega (arith, few)))
twice (suc n) (suc m) (s ∷ ss) few = ap (λ (rest : List (Option Reply)). s ∷ rest) (twice n m ss (omega (arith, few)))

-- those behind others are filled up before
filled-twice : (n m : ℕ) (front ss : List (Option Reply)) → length front + m ≤ n → filled_up n (front ++ filled_up m ss) ≡ filled_up n (front ++ ss)
filled-twice n m [] ss few = twice n m ss (omega (arith, few))
filled-twice zero m (s ∷ front) ss few = absurd (omega (arith, few))
filled-twice (suc n) m (s ∷ front) ss few = ap (λ (rest : List (Option Reply)). s ∷ rest) (filled-twice n m front ss (omega (arith, few)))

-- a reply in a slot that there is, or in the next one
filled-set : (n : ℕ) (ss : List (Option Reply)) (i : ℕ) (x : Option Reply) → i < length ss → set (filled_up n ss) i x ≡ filled_up n (set ss i x)
filled-set zero ss i x few = refl
filled-set (suc n) [] i x few = absurd (omega (arith, few))
filled-set (suc n) (s ∷ ss) zero x few = refl
filled-set (suc n) (s ∷ ss) (suc i) x few = ap (λ (rest : List (Option Reply)). s ∷ rest) (filled-set n ss i x (omega (arith, few)))

filled-next : (n : ℕ) (ss : List (Option Reply)) (x : Option Reply) → length ss < n → set (filled_up n ss) (length ss) x ≡ filled_up n (ss ++ x ∷ [])
filled-next zero ss x few = absurd (omega (arith, few))
filled-next (suc n) [] x few = refl
filled-next (suc n) (s ∷ ss) x few = ap (λ (rest : List (Option Reply)). s ∷ rest) (filled-next n ss x (omega (arith, few)))

any-filled : (n : ℕ) (ss : List (Option Reply)) → length ss < n → list_any is_none (filled_up n ss) ≡ true
any-filled zero ss few = absurd (omega (arith, few))
any-filled (suc n) [] few = refl
any-filled (suc n) (None ∷ ss) few = refl
any-filled (suc n) (Some reply ∷ ss) few = any-filled n ss (omega (arith, few))

front-filled : (n : ℕ) (ss : List (Option Reply)) → front_of (filled_up n ss) ≡ front_of ss
front-filled zero ss = refl
front-filled (suc n) [] = refl
front-filled (suc n) (None ∷ ss) = refl
front-filled (suc n) (Some reply ∷ ss) = ap (λ (rest : List Reply). reply ∷ rest) (front-filled n ss)

-- ---- replies that came in order, and the slots behind them

any-came : (came : List Reply) (late : List (Option Reply)) → list_any is_none (map Some came ++ late) ≡ list_any is_none late
any-came [] late = refl
any-came (reply ∷ came) late = any-came came late

front-came : (came : List Reply) (late : List (Option Reply)) → front_of (map Some came ++ late) ≡ came ++ front_of late
front-came [] late = refl
front-came (reply ∷ came) late = ap (λ (rest : List Reply). reply ∷ rest) (front-came came late)

module _ (all : List Reply) (had : ℕ) (late : List (Option Reply)) (count : ℕ) where
  abbrev came : List (Option Reply)
  came = map Some (drop had all)

  came-count : length came ≡ length all - had
  came-count = length-map (drop had all) Some ∙ length-drop had all

  slots-count : length (came ++ late) ≡ (length all - had) + length late
  slots-count = length-append came late ∙ ap (λ (n : ℕ). n + length late) came-count

  slots-length : (length all - had) + length late ≤ count → length (filled_up count (came ++ late)) ≡ count
  slots-length few = filled-length count (came ++ late) (let n = slots-count in omega (arith, few, n))

  -- an index of the slots is that of a call
  pub place-few : had ≤ length all → length all + length late ≤ had + count → (g : GroupReplies) → group_replies all had late count ≡ g
      → (place : ℕ) → place < length g.slots → place < count
  place-few some most g is place few =
      let n = slots-length (omega (arith, some, most)) in
      let m : length (filled_up count (came ++ late)) ≡ length g.slots = ap (λ (r : GroupReplies). length r.slots) is in
      omega (arith, n, m, few)

  -- a reply is missing, or none
  pub slots-short : (length all - had) + length late < count → true ≡ list_any is_none (filled_up count (came ++ late))
  slots-short few = sym (any-filled count (came ++ late) (let n = slots-count in omega (arith, few, n)))

  pub slots-reached : count ≤ (length all - had) + length late → list_any is_none late ≡ list_any is_none (filled_up count (came ++ late))
  slots-reached many =
      sym (ap (λ (ss : List (Option Reply)). list_any is_none ss) (filled-whole count (came ++ late) (let n = slots-count in omega (arith, many, n)))
      ∙ any-came (drop had all) late)

  -- those before the first that is missing
  pub slots-front : all ++ front_of late ≡ take had all ++ front_of (filled_up count (came ++ late))
  slots-front =
      ap (λ (rs : List Reply). rs ++ front_of late) (sym (take-append-drop had all))
      ∙ (append_assoc (take had all) (drop had all) (front_of late)
      ∙ ap (λ (rs : List Reply). take had all ++ rs) (sym (front-filled count (came ++ late) ∙ front-came (drop had all) late)))

  module _ (place : ℕ) (reply : Reply) where
    -- the next reply
    pub puts-next : late ≡ [] → had ≤ length all → length all < had + count → place ≡ length all - had
        → filled_up count (map Some (drop had (all ++ reply ∷ [])) ++ late) ≡ set (filled_up count (came ++ late)) place (Some reply)
    puts-next none some few at =
        ap (λ (ss : List (Option Reply)). filled_up count (map Some (drop had (all ++ reply ∷ [])) ++ ss)) none
        ∙ (ap (filled_up count) (append-nil (map Some (drop had (all ++ reply ∷ []))) ∙ (ap (map Some) (drop-append-le had all (reply ∷ []) some)
        ∙ map-append Some (drop had all) (reply ∷ [])))
        ∙ (sym (filled-next count came (Some reply) (let n = came-count in omega (arith, n, some, few)))
        ∙ (ap (λ (n : ℕ). set (filled_up count came) n (Some reply)) (came-count ∙ sym at)
        ∙ ap (λ (ss : List (Option Reply)). set (filled_up count ss) place (Some reply)) (sym (append-nil came)
        ∙ ap (λ (ss : List (Option Reply)). came ++ ss) (sym none)))))

    -- a reply in place of one that came in order
    pub puts-over : place < length all - had
        → filled_up count (map Some (drop had (set all (had + place) reply)) ++ late) ≡ set (filled_up count (came ++ late)) place (Some reply)
    puts-over few =
        let n = came-count in
        let m = slots-count in
        ap (λ (rs : List Reply). filled_up count (map Some rs ++ late)) (drop-set-add had all place reply)
        ∙ (ap (λ (ss : List (Option Reply)). filled_up count (ss ++ late)) (map-set Some (drop had all) place reply)
        ∙ (ap (filled_up count) (sym (set-append_left came late place (Some reply) (omega (arith, n, few))))
        ∙ sym (filled-set count (came ++ late) place (Some reply) (omega (arith, m, few)))))

    -- a reply out of order
    puts-late : length all - had ≤ place → place < count
        → filled_up count (came ++ set (filled_up ((place - (length all - had)) + 1) late) (place - (length all - had)) (Some reply))
        ≡ set (filled_up count (came ++ late)) place (Some reply)
    puts-late behind few =
        let n = came-count in
        let more : List (Option Reply) = filled_up ((place - (length all - had)) + 1) late in
        let least = filled-least ((place - (length all - had)) + 1) late in
        let m = length-append came more in
        ap (filled_up count) (sym (set-append_right came more (length all - had) place (Some reply) came-count behind))
        ∙ (sym (filled-set count (came ++ more) place (Some reply) (omega (arith, n, m, least, behind)))
        ∙ ap (λ (ss : List (Option Reply)). set ss place (Some reply))
        (filled-twice count ((place - (length all - had)) + 1) came late (omega (arith, n, behind, few))))

    module _ {E : Type 0} (index : ℕ) (next : List (Option Reply)) (at : index ≡ place - (length all - had)) (behind : length all - had ≤ place)
        (few : place < count) where
      -- the slots as they are then
      pub late-put : (result : Result (Unit {0}) E) → OnOk result (next ≡ set (filled_up (index + 1) late) index (Some reply))
          → OnOk result (filled_up count (came ++ next) ≡ set (filled_up count (came ++ late)) place (Some reply))
      late-put (Ok done) put =
          ap (λ (ss : List (Option Reply)). filled_up count (came ++ ss)) (put
          ∙ ap (λ (i : ℕ). set (filled_up (i + 1) late) i (Some reply)) at)
          ∙ puts-late behind few
      late-put (Err f) put = tt

      -- some were added, and no reply was put
      pub late-same : (result : Result (Unit {0}) E) → OnErr result (next ≡ filled_up (length next) late) → OnErr result (length next ≤ index + 1)
          → OnErr result (filled_up count (came ++ next) ≡ filled_up count (came ++ late))
      late-same (Ok done) is within = tt
      late-same (Err f) is within =
          let n = came-count in
          ap (λ (ss : List (Option Reply)). filled_up count (came ++ ss)) is
          ∙ filled-twice count (length next) came late (omega (arith, n, at, within, behind, few))

      pub late-kept : (result : Result (Unit {0}) E) → OnOk result (next ≡ set (filled_up (index + 1) late) index (Some reply))
          → OnErr result (length next ≤ index + 1) → had ≤ length all → length all + length late ≤ had + count → length all + length next ≤ had + count
      late-kept (Ok done) put within some most =
          let n = ap length put ∙ length-set (filled_up (index + 1) late) index (Some reply) in
          let m = filled-most (index + 1) ((had + count) - length all) late (omega (arith, at, behind, few, some)) (omega (arith, most)) in
          omega (arith, n, m, some, most)
      late-kept (Err f) put within some most = omega (arith, at, within, behind, few, some)
