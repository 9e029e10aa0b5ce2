-- Where conversations stand behind more events.
use Rattle.std.proofs.Common.{◌≡◌, ◌⊎◌, inl, inr, false, true, ℕ, List, [], ◌++◌, Option, length, refl, sym, subst, ap, ◌∙◌, append_assoc, append-nil, arith}
use Rattle.ua_channel.specs.declared.server.ServerChannel.{ServerChannel}
use Rattle.ua_server.specs.Sharing.{SharedEvent, OthersStand, StandsAmong, opened, sent_to, shared_over, told_by}
use Rattle.ua_server.specs.State.{State}
use Rattle.ua_server.specs.declared.connection.Connection.{Connection}
use Rattle.ua_server.specs.declared.session.Session.{Session}
use Rattle.ua_concurrent.specs.Acts.{Act, AllTold, AreOf, events_in, own_id}
use Rattle.ua_concurrent.specs.Seen.{Seen}
use Rattle.ua_concurrent.specs.Standing.{HasCome, TalkStands, Went}
use Rattle.ua_concurrent.specs.Talk.{Talk, is_going}
use Rattle.ua_concurrent.specs.declared.outcome.Phase.{Phase}
use Rattle.ua_concurrent.specs.declared.outcome.Phase.TheVariants as phase
use Rattle.ua_concurrent.proofs.Acting.{acts_both, behind_both, events_both, own_both, taken_both, told_both}

-- ---- other connections

-- what all events of a longer list are to the others
abbrev OthersAt : ℕ → List SharedEvent → List SharedEvent → State → State → State → Type 0
OthersAt k es all first before now =
    (j : ℕ) → (j ≡ k → ⊥) → (told_by j all ≡ told_by j es) × (sent_to own_id j (opened first) all ≡ sent_to own_id j (opened first) es)
    × ((x : ServerChannel) (session : Option Session) (octets : List ℕ) → StandsAmong own_id j x session octets es first before
    → StandsAmong own_id j x session octets all first now)

pub others_none : (k : ℕ) (es : List SharedEvent) (first now : State) → OthersStand own_id k es [] first now now
others_none k es first now = subst (λ (all : List SharedEvent). OthersAt k es all first now now) (sym (append-nil es))
    (λ j n. (refl, refl, λ x session octets s. s))

pub others_trans : (k : ℕ) (es more again : List SharedEvent) (first before mid now : State) → OthersStand own_id k es more first before mid
    → OthersStand own_id k (es ++ more) again first mid now → OthersStand own_id k es (more ++ again) first before now
others_trans k es more again first before mid now a b =
    subst (λ (all : List SharedEvent). OthersAt k es all first before now) (append_assoc es more again) (λ j n.
    ((b j n).0 ∙ (a j n).0, (b j n).1 ∙ (a j n).1, λ x session octets s. (b j n).2 x session octets ((a j n).2 x session octets s)))

-- ---- one conversation

not_going : phase.Starved ≡ phase.Going → ⊥
not_going e = let no : is_going phase.Starved ≡ is_going phase.Going = ap is_going e in let false_true : false ≡ true = no in cc

module _ {S : Type 0} (seen : S → Seen) where
  -- it stands after the same bytes
  abbrev pub StandsAfter : List SharedEvent → State → State → List ℕ → Talk S → Type 0
  StandsAfter es first now octets t = (s : TalkStands seen es first now t) × (s.octets ≡ octets)

  -- the same behind the same events
  abbrev pub stands_as : (es all : List SharedEvent) (first now : State) (t : Talk S) → es ≡ all → TalkStands seen es first now t
      → TalkStands seen all first now t
  stands_as es all first now t same s = record {
    octets = s.octets;
    written = s.written;
    come = subst (λ (x : List SharedEvent). HasCome t.phase t.number t.connection s.octets x first now (s.written ++ t.waiting)) same s.come;
    carried = s.carried;
  }

  module _ {A : Type 0} (acts : A → Act → A → Type 0) where
    pub went_none : (es : List SharedEvent) (first now : State) (x : A) (octets : List ℕ) (t : Talk S) → (shared_over own_id (opened first) es).state ≡ now
        → StandsAfter es first now octets t → Went seen acts es first (now, x) (now, x) octets t
    went_none es first now x octets t state s = record {
      steps = [];
      own = tt;
      told = inl tt;
      acted = refl;
      state_is = subst (λ (all : List SharedEvent). (shared_over own_id (opened first) all).state ≡ now) (sym (append-nil es)) state;
      stands = stands_as es (es ++ []) first now t (sym (append-nil es)) s.0;
      taken = let same = ap length s.1 in omega (arith, same);
      others = others_none t.number es first now;
    }

    pub went_trans : (es : List SharedEvent) (first : State) (before mid now : State × A) (octets : List ℕ) (t u : Talk S)
        (w : Went seen acts es first before mid octets t) → t.phase ≡ phase.Going → u.number ≡ t.number
        → Went seen acts (es ++ events_in w.steps) first mid now w.stands.octets u → Went seen acts es first before now octets u
    went_trans es first before mid now octets t u w going same v = record {
      steps = w.steps ++ v.steps;
      own = own_both u.number w.steps v.steps (subst (λ (k : ℕ). AreOf k w.steps) (sym same) w.own) v.own;
      told = told_then w.told v.told;
      acted = acts_both acts (opened first) es w.steps v.steps before.1 mid.1 now.1 w.acted v.acted;
      state_is = subst (λ (all : List SharedEvent). (shared_over own_id (opened first) all).state ≡ now.0) (behind_both es w.steps v.steps) v.state_is;
      stands = stands_as ((es ++ events_in w.steps) ++ events_in v.steps) (es ++ events_in (w.steps ++ v.steps)) first now.0 u
          (behind_both es w.steps v.steps) v.stands;
      taken = let f = w.taken in let g = v.taken in let both = taken_both w.steps v.steps in omega (arith, f, g, both);
      others = subst (λ (all : List SharedEvent). OthersStand own_id u.number es all first before.0 now.0) (sym (events_both w.steps v.steps))
          (others_trans u.number es (events_in w.steps) (events_in v.steps) first before.0 mid.0 now.0
          (subst (λ (k : ℕ). OthersStand own_id k es (events_in w.steps) first before.0 mid.0) (sym same) w.others) v.others);
    }
      where
        told_then : AllTold w.steps ⊎ (t.phase ≡ phase.Starved) → AllTold v.steps ⊎ (u.phase ≡ phase.Starved)
            → AllTold (w.steps ++ v.steps) ⊎ (u.phase ≡ phase.Starved)
        told_then (inl x) (inl y) = inl (told_both w.steps v.steps x y)
        told_then (inl x) (inr e) = inr e
        told_then (inr e) y = let no : phase.Starved ≡ phase.Going = sym e ∙ going in absurd (not_going no)

    -- where it stands on without a further event
    pub went_on : (es : List SharedEvent) (first : State) (before now : State × A) (octets : List ℕ) (t u : Talk S) → u.number ≡ t.number → u.phase ≡ t.phase
        → ((all : List SharedEvent) (s : TalkStands seen all first now.0 t) → StandsAfter all first now.0 s.octets u)
        → Went seen acts es first before now octets t → Went seen acts es first before now octets u
    went_on es first before now octets t u same staying on w = record {
      steps = w.steps;
      own = subst (λ (k : ℕ). AreOf k w.steps) (sym same) w.own;
      told = subst (λ (p : Phase). AllTold w.steps ⊎ (p ≡ phase.Starved)) (sym staying) w.told;
      acted = w.acted;
      state_is = w.state_is;
      stands = (on (es ++ events_in w.steps) w.stands).0;
      taken = ap length (on (es ++ events_in w.steps) w.stands).1 ∙ w.taken;
      others = subst (λ (k : ℕ). OthersStand own_id k es (events_in w.steps) first before.0 now.0) (sym same) w.others;
    }

    -- one did this, and then that
    pub went_then : (first : State) (before mid now : State × A) (a b c : Talk S)
        → ((es : List SharedEvent) (s : TalkStands seen es first before.0 a) → Went seen acts es first before mid s.octets b) → b.phase ≡ phase.Going
        → c.number ≡ b.number
        → ((es : List SharedEvent) (s : TalkStands seen es first mid.0 b) → Went seen acts es first mid now s.octets c) → (es : List SharedEvent)
        (s : TalkStands seen es first before.0 a) → Went seen acts es first before now s.octets c
    went_then first before mid now a b c f going same h es s =
        let w = f es s in went_trans es first before mid now s.octets b c w going same (h (es ++ events_in w.steps) w.stands)

  -- another conversation stands on
  pub stands_beside : (k : ℕ) (es more : List SharedEvent) (first before now : State) (t : Talk S) → (t.number ≡ k → ⊥)
      → OthersStand own_id k es more first before now
      → TalkStands seen es first before t → TalkStands seen (es ++ more) first now t
  stands_beside k es more first before now t apart others s = record {
    octets = s.octets;
    written = s.written;
    come = come_beside t.phase t.number t.connection s.octets (s.written ++ t.waiting) (others t.number apart) s.come;
    carried = s.carried;
  }
    where
      come_beside : (p : Phase) (j : ℕ) (c : Connection) (octets sent : List ℕ)
          → (told_by j (es ++ more) ≡ told_by j es) × (sent_to own_id j (opened first) (es ++ more) ≡ sent_to own_id j (opened first) es)
          × ((x : ServerChannel) (session : Option Session) (octets : List ℕ) → StandsAmong own_id j x session octets es first before
          → StandsAmong own_id j x session octets (es ++ more) first now)
          → HasCome p j c octets es first before sent → HasCome p j c octets (es ++ more) first now sent
      come_beside phase.Going j c octets sent o h = (o.2 _ _ octets h.0, o.1 ∙ h.1)
      come_beside phase.Closed j c octets sent o h = rw (o.0, o.1) h
      come_beside (phase.Refused code) j c octets sent o h = rw (o.0, o.1) h
      come_beside phase.Starved j c octets sent o h = (h.0, o.1 ∙ h.1)
