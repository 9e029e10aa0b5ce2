-- What a turn at one place leaves of all places.
use Rattle.std.proofs.Common.{◌≡◌, ◌≢◌, ◌<◌, ◌≤◌, ◌+◌, ◌⊎◌, inl, inr, ℕ, zero, suc, List, [], ◌∷◌, ◌++◌, length, replicate, Option, None}
use Rattle.std.proofs.Common.{Some, true, false, refl, sym, ap, subst, ◌∙◌, append-nil, arith, slice_get, slice_set}
use Rattle.std.proofs.Math.ListN.{length-set}
use Rattle.ua_server.specs.Sharing.{SharedEvent, opened, shared_over}
use Rattle.ua_server.specs.State.{State}
use Rattle.ua_concurrent.specs.All.{HadRound, IsFree, TurnsAt, WokeAt}
use Rattle.ua_concurrent.specs.Acts.{Act, events_in, own_id}
use Rattle.ua_concurrent.specs.Seen.{Seen}
use Rattle.ua_concurrent.specs.Standing.{AreNumbered, GoOn, IsAt, TalkStands, StandTogether, Went}
use Rattle.ua_concurrent.specs.Talk.{Talk, released_at, released_by}
use Rattle.ua_concurrent.specs.Turning.{HadTurn, WokeTalk}
use Rattle.ua_concurrent.specs.declared.socket.Readiness.{Readiness}
use Rattle.std.specs.Option.{option_map}
use Rattle.std.specs.Prelude.{IfNone, is_some}
use Rattle.ua_concurrent.proofs.Acting.{acts_both, behind_both}
use Rattle.ua_concurrent.proofs.Behind.{stands_beside}

-- ---- places

pub get_same : {X : Type 0} (xs : List X) (i : ℕ) (y : X) → i < length xs → slice_get (slice_set xs i y) i ≡ Some y
get_same [] i y h = absurd (omega arith)
get_same (x ∷ xs) zero y h = refl
get_same (x ∷ xs) (suc i) y h = get_same xs i y (omega arith)

pub get_other : {X : Type 0} (xs : List X) (i j : ℕ) (y : X) → j ≢ i → slice_get (slice_set xs i y) j ≡ slice_get xs j
get_other [] i j y n = refl
get_other (x ∷ xs) zero zero y n = absurd (n refl)
get_other (x ∷ xs) zero (suc j) y n = refl
get_other (x ∷ xs) (suc i) zero y n = refl
get_other (x ∷ xs) (suc i) (suc j) y n = get_other xs i j y (λ e. n (ap suc e))

pub get_within : {X : Type 0} (xs : List X) (i : ℕ) (y : X) → slice_get xs i ≡ Some y → i < length xs
get_within [] i y e = cc
get_within (x ∷ xs) zero y e = omega arith
get_within (x ∷ xs) (suc i) y e = let h = get_within xs i y e in omega arith

pub get_none : {X : Type 0} (n i : ℕ) (y : X) → slice_get (replicate n None) i ≡ Some (Some y) → ⊥
get_none zero i y e = cc
get_none (suc n) zero y e = cc
get_none (suc n) (suc i) y e = get_none n i y e

at_freed : {S : Type 0} (xs : List (Option (Talk S))) (p q : ℕ) (t : Talk S) → IsAt (slice_set xs p None) q t → IsAt xs q t
at_freed [] p q t e = e
at_freed (x ∷ xs) zero zero t e = cc
at_freed (x ∷ xs) zero (suc q) t e = e
at_freed (x ∷ xs) (suc p) zero t e = e
at_freed (x ∷ xs) (suc p) (suc q) t e = at_freed xs p q t e

pub some_mapped : {A B : Type 0} (f : A → B) (o : Option A) → is_some (option_map f o) ≡ is_some o
some_mapped f (Some x) = refl
some_mapped f None = refl

-- ---- a connection that is over

pub some_kept : {A : Type 0} (P : Type 0) (r : Option A) → is_some r ≡ true → IfNone r P
some_kept P (Some r) over = tt
some_kept P None over = absurd cc

pub none_over : {A : Type 0} (r : Option A) → is_some r ≡ false → None ≡ r
none_over (Some r) over = absurd cc
none_over None over = refl

pub over_within : {S : Type 0} (xs : List (Option (Talk S))) (p : ℕ) → is_some (released_at xs p) ≡ true → p < length xs
over_within [] p over = absurd cc
over_within (x ∷ xs) zero over = omega arith
over_within (x ∷ xs) (suc p) over = let less = over_within xs p over in omega (arith, less)

pub released_there : {S : Type 0} (xs : List (Option (Talk S))) (p : ℕ) (x : Option (Talk S)) → slice_get xs p ≡ Some x → released_at xs p ≡ released_by x
released_there [] p x e = absurd cc
released_there (y ∷ xs) zero x e = let same : y ≡ x = cc in ap released_by same
released_there (y ∷ xs) (suc p) x e = released_there xs p x e

same_or_not : (a b : ℕ) → (a ≡ b) ⊎ (a ≢ b)
same_or_not zero zero = inl refl
same_or_not zero (suc b) = inr (λ e. omega (arith, e))
same_or_not (suc a) zero = inr (λ e. omega (arith, e))
same_or_not (suc a) (suc b) = elim (same_or_not a b) [ inl e ↦ inl (ap suc e) | inr n ↦ inr (λ e. n (omega (arith, e))) ]

below : (n p : ℕ) → p < n + 1 → p ≢ n → p < n
below zero zero h x = absurd (x refl)
below zero (suc p) h x = absurd (omega (arith, h))
below (suc n) zero h x = omega arith
below (suc n) (suc p) h x = let l = below n p (omega (arith, h)) (λ e. x (ap suc e)) in omega (arith, l)

module _ {S : Type 0} (seen : S → Seen) where
  -- each conversation that is there was there, under its number
  pub numbered_back : (last : ℕ) (before after : List (Option (Talk S)))
      → ((q : ℕ) (t : Talk S) → IsAt after q t → (u : Talk S) × IsAt before q u × (t.number ≡ u.number))
      → AreNumbered last before → AreNumbered last after
  numbered_back last before after back n = record {
    within = λ q t e. let u = back q t e in subst (λ (k : ℕ). k ≤ last) (sym u.2) (n.within q u.0 u.1);
    apart = λ p q t v e f same. let u = back p t e in let w = back q v f in n.apart p q u.0 w.0 u.1 w.1 (sym u.2 ∙ same ∙ w.2);
  }

  -- all stand on where each that is there was there, and stands on
  pub together_kept : (es : List SharedEvent) (first now : State) (last : ℕ) (before after : List (Option (Talk S)))
      → ((q : ℕ) (t : Talk S) → IsAt after q t → (u : Talk S) × IsAt before q u × (t.number ≡ u.number)
      × (TalkStands seen es first now u → TalkStands seen es first now t))
      → StandTogether seen es first now last before → StandTogether seen es first now last after
  together_kept es first now last before after back s = record {
    state_is = s.state_is;
    numbered = numbered_back last before after (λ q t e. let u = back q t e in (u.0, u.1, u.2)) s.numbered;
    each = λ q t e. let u = back q t e in u.3 (s.each q u.0 u.1);
    unheard = s.unheard;
  }

  -- before any connection
  pub together_none : (first : State) (n : ℕ) → StandTogether seen [] first first 0 (replicate n None)
  together_none first n = record {
    state_is = refl;
    numbered = record { within = λ p t e. absurd (get_none n p t e); apart = λ p q t u e f same. absurd (get_none n p t e) };
    each = λ p t e. absurd (get_none n p t e);
    unheard = λ k h. refl;
  }

  -- one more is opened, under the next number
  pub together_opened : (es : List SharedEvent) (first now : State) (last p : ℕ) (t : Talk S) (before : List (Option (Talk S))) → p < length before
      → t.number ≡ last + 1
      → TalkStands seen es first now t → StandTogether seen es first now last before
      → StandTogether seen es first now (last + 1) (slice_set before p (Some t))
  together_opened es first now last p t before within number stands s = record {
    state_is = s.state_is;
    numbered =
        record { within = λ q u e. numbers q u e (same_or_not q p); apart = λ q r u v e f same. places q r u v e f same (same_or_not q p) (same_or_not r p) };
    each = λ q u e. each q u e (same_or_not q p);
    unheard = λ k h. s.unheard k (omega (arith, h));
  }
    where
      after : List (Option (Talk S))
      after = slice_set before p (Some t)

      here : (q : ℕ) (u : Talk S) → q ≡ p → IsAt after q u → u ≡ t
      here q u same e = let at : slice_get after p ≡ Some (Some u) = subst (λ (x : ℕ). slice_get after x ≡ Some (Some u)) same e in
          let put : slice_get after p ≡ Some (Some t) = get_same before p (Some t) within in cc

      there : (q : ℕ) (u : Talk S) → q ≢ p → IsAt after q u → IsAt before q u
      there q u other e = sym (get_other before p q (Some t) other) ∙ e

      numbers : (q : ℕ) (u : Talk S) → IsAt after q u → (q ≡ p) ⊎ (q ≢ p) → u.number ≤ last + 1
      numbers q u e (inl same) = let is = ap (λ (x : Talk S). x.number) (here q u same e) ∙ number in omega (arith, is)
      numbers q u e (inr other) = let h = s.numbered.within q u (there q u other e) in omega (arith, h)

      places : (q r : ℕ) (u v : Talk S) → IsAt after q u → IsAt after r v → u.number ≡ v.number → (q ≡ p) ⊎ (q ≢ p) → (r ≡ p) ⊎ (r ≢ p) → q ≡ r
      places q r u v e f same (inl x) (inl y) = x ∙ sym y
      places q r u v e f same (inl x) (inr y) =
          let is = ap (λ (x : Talk S). x.number) (here q u x e) ∙ number in let h = s.numbered.within r v (there r v y f) in absurd (omega (arith, is, h, same))
      places q r u v e f same (inr x) (inl y) =
          let is = ap (λ (x : Talk S). x.number) (here r v y f) ∙ number in let h = s.numbered.within q u (there q u x e) in absurd (omega (arith, is, h, same))
      places q r u v e f same (inr x) (inr y) = s.numbered.apart q r u v (there q u x e) (there r v y f) same

      each : (q : ℕ) (u : Talk S) → IsAt after q u → (q ≡ p) ⊎ (q ≢ p) → TalkStands seen es first now u
      each q u e (inl same) = subst (λ (x : Talk S). TalkStands seen es first now x) (sym (here q u same e)) stands
      each q u e (inr other) = s.each q u (there q u other e)

  -- one is taken out
  pub together_freed : (es : List SharedEvent) (first now : State) (last p : ℕ) (places : List (Option (Talk S)))
      → StandTogether seen es first now last places → StandTogether seen es first now last (slice_set places p None)
  together_freed es first now last p places s =
      together_kept es first now last places (slice_set places p None) (λ q t e. (t, at_freed places p q t e, refl, λ h. h)) s

  -- the system said something of the socket of one
  pub together_woken : (es : List SharedEvent) (first now : State) (last p : ℕ) (a b : Talk S) (places : List (Option (Talk S))) → p < length places
      → IsAt places p a
      → b ≡ record a { socket = b.socket } → (seen b.socket).heard ≡ (seen a.socket).heard
      → StandTogether seen es first now last places → StandTogether seen es first now last (slice_set places p (Some b))
  together_woken es first now last p a b places within at same told s =
      together_kept es first now last places (slice_set places p (Some b)) (λ q t e. back q t e (same_or_not q p)) s
    where
      stands : TalkStands seen es first now a → TalkStands seen es first now b
      stands h = subst (λ (t : Talk S). TalkStands seen es first now t) (sym same)
          (record { octets = h.octets; written = h.written; come = h.come; carried = λ c e. h.carried c (sym told ∙ e) })

      back : (q : ℕ) (t : Talk S) → IsAt (slice_set places p (Some b)) q t → (q ≡ p) ⊎ (q ≢ p)
          → (u : Talk S) × IsAt places q u × (t.number ≡ u.number) × (TalkStands seen es first now u → TalkStands seen es first now t)
      back q t e (inl is) =
          let here : slice_get (slice_set places p (Some b)) p ≡ Some (Some t) = subst (λ (x : ℕ). slice_get (slice_set places p (Some b)) x ≡ Some (Some t)) is
          e in
          let put : slice_get (slice_set places p (Some b)) p ≡ Some (Some b) = get_same places p (Some b) within in
          let t_is : t ≡ b = cc (here, put) in (
            a,
            subst (λ (x : ℕ). slice_get places x ≡ Some (Some a)) (sym is) at,
            ap (λ (x : Talk S). x.number) (t_is ∙ same),
            λ h. subst (λ (x : Talk S). TalkStands seen es first now x) (sym t_is) (stands h),
          )
      back q t e (inr other) = (t, sym (get_other places p q (Some b) other) ∙ e, refl, λ h. h)

  -- one had a turn
  pub together_turn : {A : Type 0} (acts : A → Act → A → Type 0) (es : List SharedEvent) (first : State) (before now : State × A) (octets : List ℕ)
      (last p : ℕ) (a b : Talk S) (places after : List (Option (Talk S)))
      → IsAt places p a → IsAt after p b → ((q : ℕ) → q ≢ p → slice_get after q ≡ slice_get places q) → b.number ≡ a.number
      → StandTogether seen es first before.0 last places → Went seen acts es first before now octets b → GoOn seen acts es first before.1 now last after
  together_turn acts es first before now octets last p a b places after at put others same s w = record {
    steps = w.steps;
    acted = w.acted;
    stand = record {
      state_is = w.state_is;
      numbered = numbered_back last places after (λ q t e. back q t e (same_or_not q p)) s.numbered;
      each = λ q t e. each q t e (same_or_not q p);
      unheard = λ k h. (w.others k (λ e. let n = s.numbered.within p a at in omega (arith, e, h, n, same))).0 ∙ s.unheard k h;
    };
  }
    where
      here : (q : ℕ) (t : Talk S) → q ≡ p → IsAt after q t → t ≡ b
      here q t e f = let at : slice_get after p ≡ Some (Some t) = subst (λ (x : ℕ). slice_get after x ≡ Some (Some t)) e f in cc

      back : (q : ℕ) (t : Talk S) → IsAt after q t → (q ≡ p) ⊎ (q ≢ p) → (u : Talk S) × IsAt places q u × (t.number ≡ u.number)
      back q t f (inl e) = (a, subst (λ (x : ℕ). slice_get places x ≡ Some (Some a)) (sym e) at, ap (λ (x : Talk S). x.number) (here q t e f) ∙ same)
      back q t f (inr n) = (t, sym (others q n) ∙ f, refl)

      each : (q : ℕ) (t : Talk S) → IsAt after q t → (q ≡ p) ⊎ (q ≢ p) → TalkStands seen (es ++ events_in w.steps) first now.0 t
      each q t f (inl e) = subst (λ (x : Talk S). TalkStands seen (es ++ events_in w.steps) first now.0 x) (sym (here q t e f)) w.stands
      each q t f (inr n) =
          let was : IsAt places q t = sym (others q n) ∙ f in
          stands_beside seen b.number es (events_in w.steps) first before.0 now.0 t (λ e. n (s.numbered.apart q p t a was at (e ∙ same))) w.others
          (s.each q t was)

  -- ---- one after the other

  pub together_as : (es all : List SharedEvent) (first now : State) (last : ℕ) (places : List (Option (Talk S))) → es ≡ all
      → StandTogether seen es first now last places → StandTogether seen all first now last places
  together_as es all first now last places same s = subst (λ (x : List SharedEvent). StandTogether seen x first now last places) same s

  module _ {A : Type 0} (acts : A → Act → A → Type 0) where
    pub go_none : (es : List SharedEvent) (first now : State) (x : A) (last : ℕ) (places : List (Option (Talk S)))
        → StandTogether seen es first now last places → GoOn seen acts es first x (now, x) last places
    go_none es first now x last places s =
        record { steps = []; acted = refl; stand = together_as es (es ++ []) first now last places (sym (append-nil es)) s }

    pub together_then : (first : State) (before mid now : State × A) (last last' last'' : ℕ) (a b c : List (Option (Talk S)))
        → ((es : List SharedEvent) → StandTogether seen es first before.0 last a → GoOn seen acts es first before.1 mid last' b)
        → ((es : List SharedEvent) → StandTogether seen es first mid.0 last' b → GoOn seen acts es first mid.1 now last'' c)
        → (es : List SharedEvent) → StandTogether seen es first before.0 last a → GoOn seen acts es first before.1 now last'' c
    together_then first before mid now last last' last'' a b c f h es s =
        let w = f es s in
        let v = h (es ++ events_in w.steps) w.stand in
        record {
          steps = w.steps ++ v.steps;
          acted = acts_both acts (opened first) es w.steps v.steps before.1 mid.1 now.1 w.acted v.acted;
          stand = together_as ((es ++ events_in w.steps) ++ events_in v.steps) (es ++ events_in (w.steps ++ v.steps)) first now.0 last'' c
              (behind_both es w.steps v.steps) v.stand;
        }

  -- the places before this one had their turn
  pub record RoundTo (n : ℕ) (before after : List (Option (Talk S))) : Type 0 where
    pub count : length after ≡ length before
    pub free : (p : ℕ) → IsFree before p → IsFree after p
    pub each : (p : ℕ) (a : Talk S) → p < n → IsAt before p a → (b : Talk S) × IsAt after p b × HadTurn seen a b
    pub still : (p : ℕ) → n ≤ p → slice_get after p ≡ slice_get before p

  pub round_next : (n : ℕ) (before mid after : List (Option (Talk S))) → RoundTo n before mid → TurnsAt seen n mid after
      → RoundTo (n + 1) before after
  round_next n before mid after r t = record {
    count = t.count ∙ r.count;
    free = λ p f. free p f (same_or_not p n);
    each = λ p a h e. each p a h e (same_or_not p n);
    still = λ p h. t.others p (λ e. omega (arith, e, h)) ∙ r.still p (omega (arith, h));
  }
    where
      free : (p : ℕ) → IsFree before p → (p ≡ n) ⊎ (p ≢ n) → IsFree after p
      free p f (inl e) = subst (λ (x : ℕ). IsFree after x) (sym e) (t.free (subst (λ (x : ℕ). IsFree mid x) e (r.free p f)))
      free p f (inr d) = t.others p d ∙ r.free p f

      each : (p : ℕ) (a : Talk S) → p < n + 1 → IsAt before p a → (p ≡ n) ⊎ (p ≢ n) → (b : Talk S) × IsAt after p b × HadTurn seen a b
      each p a h e (inl same) =
          let was : IsAt mid n a = subst (λ (x : ℕ). IsAt mid x a) same (r.still p (omega (arith, same)) ∙ e) in
          let turned = t.turn a was in
          (turned.0, subst (λ (x : ℕ). IsAt after x turned.0) (sym same) turned.1, turned.2)
      each p a h e (inr d) =
          let less : p < n = below n p h d in
          let had = r.each p a less e in
          (had.0, t.others p d ∙ had.1, had.2)

  pub round_whole : (n : ℕ) (before after : List (Option (Talk S))) → length before ≤ n → RoundTo n before after
      → HadRound seen before after
  round_whole n before after all r = record {
    count = r.count;
    free = r.free;
    each = λ p a e. let within = get_within before p (Some a) e in r.each p a (omega (arith, within)) e;
  }

  -- ---- the conversation at a place has its turn

  pub put_turn : (places : List (Option (Talk S))) (p : ℕ) (a b : Talk S) → p < length places → IsAt places p a → HadTurn seen a b
      → TurnsAt seen p places (slice_set places p (Some b))
  put_turn places p a b within here had = record {
    count = length-set places p (Some b);
    others = λ q n. get_other places p q (Some b) n;
    free = λ f. let no : Some (Some a) ≡ Some None = sym here ∙ f in cc;
    turn = λ x e. let same : a ≡ x = cc (here, e) in
        (b, get_same places p (Some b) within, subst (λ (t : Talk S). HadTurn seen t b) same had);
  }

  pub put_woken : (readiness : Readiness) (places : List (Option (Talk S))) (p : ℕ) (a b : Talk S) → p < length places → IsAt places p a
      → WokeTalk seen readiness a b → WokeAt seen readiness p places (slice_set places p (Some b))
  put_woken readiness places p a b within here woke = record {
    count = length-set places p (Some b);
    others = λ q n. get_other places p q (Some b) n;
    free = λ f. let no : Some (Some a) ≡ Some None = sym here ∙ f in cc;
    woke = λ x e. let same : a ≡ x = cc (here, e) in
        (b, get_same places p (Some b) within, subst (λ (t : Talk S). WokeTalk seen readiness t b) same woke);
  }

  -- there is none at the place
  pub woke_none : (readiness : Readiness) (places : List (Option (Talk S))) (p : ℕ) → ((a : Talk S) → IsAt places p a → ⊥)
      → WokeAt seen readiness p places places
  woke_none readiness places p none = record { count = refl; others = λ q n. refl; free = λ f. f; woke = λ a e. absurd (none a e) }

  pub put_stand : {A : Type 0} (acts : A → Act → A → Type 0) (places : List (Option (Talk S))) (p : ℕ) (a b : Talk S) (first : State)
      (before now : State × A) (last : ℕ) → p < length places → IsAt places p a → b.number ≡ a.number
      → ((es : List SharedEvent) → (shared_over own_id (opened first) es).state ≡ before.0 → (s : TalkStands seen es first before.0 a)
      → Went seen acts es first before now s.octets b)
      → (es : List SharedEvent) → StandTogether seen es first before.0 last places → GoOn seen acts es first before.1 now last (slice_set places p (Some b))
  put_stand acts places p a b first before now last within here same went es s =
      let stood = s.each p a here in
      together_turn acts es first before now stood.octets last p a b places (slice_set places p (Some b)) here
      (get_same places p (Some b) within) (λ q n. get_other places p q (Some b) n) same s
      (went es s.state_is stood)
