-- Of which calls a server was told, in words of calls alone.
use Rattle.std.proofs.Common.{◌≡◌, ◌↔◌, ◌⊎◌, inl, inr, ℕ, suc, ◌+◌, ◌≤◌, List, [], ◌∷◌, ◌++◌, length, refl, sym, ◌∙◌, ap, subst, arith, append-nil, length-append}
use Rattle.ua_builtin.specs.declared.date_time.DateTime.{DateTime}
use Rattle.ua_frame.specs.Laws.{Stops}
use Rattle.ua_frame.specs.Run.{End, Going, Over, Stopped}
use Rattle.ua_frame.proofs.Unique.{unique}
use Rattle.ua_channel.specs.Agreement.{agreement_of}
use Rattle.ua_channel.specs.ClientSends.{hello_to}
use Rattle.ua_channel.specs.ServerStands.{ClosedAt, Goes, RefusedAt, channel_of, limits_of, rules_of}
use Rattle.ua_channel.specs.ServerTold.{Told, Agreed, Opened}
use Rattle.ua_channel.specs.declared.client.channel.ClientChannel.{ClientChannel}
use Rattle.ua_channel.specs.declared.server.ServerChannel.{ServerChannel}
use Rattle.ua_channel_laws.specs.Outgoing.Outgoing.{CallWith, RenewalAt}
use Rattle.ua_channel_laws.specs.Outgoing.{Outgoing, one_told}
use Rattle.ua_channel_laws.specs.Rounds.{BothEnds, round_behind, rounds_told}
use Rattle.ua_channel_laws.proofs.Lists.{meets}
use Rattle.ua_server.specs.Said.{behind_first, state_after}
use Rattle.ua_server.specs.State.{State}
use Rattle.ua_server.specs.Stepping.{ServerStands}
use Rattle.ua_headline.specs.Headline.{AreTold, Did, History, handed_in, numbered_from}
use Rattle.ua_headline.specs.Talk.{AreFirstOf, CanOpen, Ends, IsPrefix, TookOf, both_opened, left_by, rounds_from, rounds_in, told_by_turns}
use Rattle.ua_headline.proofs.Pipelining.{IsPlain, plain}
use Rattle.ua_headline.proofs.Singly.{first_singly, singly, state_singly}
use Rattle.ua_headline.proofs.Talking.{AsksEarlier, EndsConnect, RoundsReach, first_left, first_told, first_whole, not_closed, not_refused, told_first}
use Rattle.ua_headline.proofs.Turning.{turn}

-- ---- lists

pub heads : {A : Type 0} (x y : A) (xs ys : List A) → x ∷ xs ≡ y ∷ ys → x ≡ y
heads x y xs ys e = cc

pub tails : {A : Type 0} (x y : A) (xs ys : List A) → x ∷ xs ≡ y ∷ ys → xs ≡ ys
tails x y xs ys e = cc

-- of two lists that begin the same one the longer one begins with the other
longer : {A : Type 0} (xs ys all : List A) → IsPrefix xs all → IsPrefix ys all → length ys ≤ length xs → IsPrefix ys xs
longer {A = A} xs ys all p q enough = by (meets xs ys p.0 q.0 (sym p.1 ∙ q.1))
  where
    by : (((more : List A) × (ys ≡ xs ++ more)) ⊎ ((more : List A) × (xs ≡ ys ++ more))) → IsPrefix ys xs
    by (inr m) = m
    by (inl ([], same)) = ([], sym (append-nil xs) ∙ (sym same ∙ sym (append-nil ys)))
    by (inl (m ∷ more, same)) = absurd (omega (arith, enough, ap length same, length-append xs (m ∷ more)))

-- ---- a wrong frame

-- a server that goes on, or that closed, has no wrong frame
pub not_wrong : (x : ServerChannel) (octets : List ℕ) (told : List Told) (code : ℕ) → Stops (rules_of x) octets code
    → (Goes x octets told ⊎ ClosedAt x octets told) → ⊥
not_wrong x octets told code s (inl g) =
    let ends : ◌≡◌ {A = End ℕ} Going (Stopped code) =
    (unique (rules_of x) octets g.frames s.frames g.rest s.rest Going (Stopped code) g.stands.run s.run).ends in
    cc
not_wrong x octets told code s (inr g) =
    let ends : ◌≡◌ {A = End ℕ} Over (Stopped code) = (unique (rules_of x) octets g.frames s.frames [] s.rest Over (Stopped code) g.run s.run).ends in
    cc

-- ---- the first of what calls tell

module _ (e : Ends) where
  abbrev told_at : BothEnds → State → List DateTime → List Outgoing → List Told
  told_at at s times calls = rounds_told e.server e.channel at (rounds_from e at s times (singly calls))

  -- they are what the first of the calls tell
  pub record AreOf (at : BothEnds) (s : State) (times : List DateTime) (calls : List Outgoing) (told : List Told) : Type 0 where
    pub done : List Outgoing
    pub first : IsPrefix done calls
    pub told_is : told ≡ rounds_told e.server e.channel at (rounds_from e at s times (singly done))
    pub handed : handed_in told ≡ numbered_from at.id done
    pub size : length told ≡ length done

  -- what one operation tells
  abbrev told_one : BothEnds → Outgoing → Told
  told_one at o = one_told at.client.newest at.server.issued at.id o

  hands_one : (at : BothEnds) (o : Outgoing) (told : List Told) (done : List Outgoing) → handed_in told ≡ numbered_from (at.id + 1) done
      → handed_in (told_one at o ∷ told) ≡ numbered_from at.id (o ∷ done)
  hands_one at (CallWith body) told done is = ap (λ (us : List (ℕ × List ℕ)). (at.id, body) ∷ us) is
  hands_one at (RenewalAt time) told done is = is

  are_of : (at : BothEnds) (s : State) (times : List DateTime) (calls : List Outgoing) (told : List Told) → IsPrefix told (told_at at s times calls)
      → AreOf at s times calls told
  are_of at s times calls [] p = record { done = []; first = (calls, refl); told_is = refl; handed = refl; size = refl }
  are_of at s times [] (t ∷ told) (more, is) = absurd (omega (arith, ap length is))
  are_of at s times (c ∷ calls) (t ∷ told) (more, is) =
      let now : BothEnds = round_behind e.server e.channel at (turn e at s times (c ∷ [])) in
      let left : State × List DateTime = left_by s times (c ∷ []) in
      let one : t ≡ told_one at c = sym (heads (told_one at c) t (told_at now left.0 left.1 calls) (told ++ more) is) in
      let rest = are_of now left.0 left.1 calls told (more, tails (told_one at c) t (told_at now left.0 left.1 calls) (told ++ more) is) in
      record {
        done = c ∷ rest.done;
        first = (rest.first.0, ap (λ (cs : List Outgoing). c ∷ cs) rest.first.1);
        told_is =
            ap (λ (u : Told). u ∷ told) one
            ∙ ap (λ (us : List Told). told_one at c ∷ us) rest.told_is;
        handed = ap (λ (u : Told). handed_in (u ∷ told)) one ∙ hands_one at c told rest.done rest.handed;
        size = omega (arith, rest.size);
      }

  length_told : (at : BothEnds) (s : State) (times : List DateTime) (calls : List Outgoing) → length (told_at at s times calls) ≡ length calls
  length_told at s times [] = refl
  length_told at s times (c ∷ calls) =
      omega (
        arith,
        length_told (round_behind e.server e.channel at (turn e at s times (c ∷ []))) (left_by s times (c ∷ [])).0 (left_by s times (c ∷ [])).1 calls,
      )

  pub told_from_more : (at : BothEnds) (s : State) (times : List DateTime) (first calls : List Outgoing) → IsPrefix first calls
      → IsPrefix (told_at at s times first) (told_at at s times calls)
  told_from_more at s times [] calls p = (told_at at s times calls, refl)
  told_from_more at s times (f ∷ first) [] (more, is) = absurd (omega (arith, ap length is))
  told_from_more at s times (f ∷ first) (c ∷ calls) (more, is) =
      let now : Outgoing → BothEnds = λ b. round_behind e.server e.channel at (turn e at s times (b ∷ [])) in
      let one : c ≡ f = heads c f calls (first ++ more) is in
      let rest =
      told_from_more (now f) (left_by s times (f ∷ [])).0 (left_by s times (f ∷ [])).1 first calls (more, tails c f calls (first ++ more) is) in (
        rest.0,
        subst (λ (b : Outgoing). told_at at s times (b ∷ calls) ≡ told_at at s times (f ∷ first) ++ rest.0) (sym one)
            (ap (λ (us : List Told). told_one at f ∷ us) rest.1),
      )

  -- with the opening
  pub told_more : (first calls : List Outgoing) → IsPrefix first calls → IsPrefix (told_by_turns e (singly first)) (told_by_turns e (singly calls))
  told_more first calls p =
      let rest = told_from_more (both_opened e) e.first (behind_first e.times) first calls p in
      (rest.0, ap (λ (us : List Told). Agreed (agreement_of e.server (hello_to e.client e.url)) ∷ (Opened 1 0 1 3600000 ∷ us)) rest.1)

-- ---- with the opening

module _ (connect : EndsConnect) (reach : RoundsReach) (earlier : AsksEarlier) (e : Ends) (can : CanOpen e) (y : ClientChannel) (h : History) (d : Did e y h)
    (x : ServerChannel) (limits_are : limits_of x ≡ e.server) (channel_is : channel_of x ≡ e.channel) (took : List ℕ) (took_is : IsPrefix took h.sent) where
  i : IsPlain connect reach earlier e can y h
  i = plain connect reach earlier e can y h d

  t : TookOf e (singly h.ops) x took
  t = record {
    can = can;
    accepted = i.accepted;
    limits_are = limits_are;
    channel_is = channel_is;
    sent = h.sent;
    sent_is = ([], sym i.sent_is ∙ sym (append-nil h.sent));
    took_is = took_is;
  }

  abbrev first_token : Told
  first_token = Opened 1 0 1 3600000

  -- the state where nothing was called
  none_called : (told : List Told) (now : State) → ServerStands x took told e.first e.times now
      → (state_after (channel_of x) e.first told e.times).state ≡ e.first → now ≡ e.first
  none_called told now s is = sym s.state_is ∙ is

  nothing_left : (state_after (channel_of x) e.first [] e.times).state ≡ e.first
  unfolding state_after
  nothing_left = refl

  agreed_left : (u : Told) (us : List Told) → told_by_turns e (singly h.ops) ≡ u ∷ us → (state_after (channel_of x) e.first (u ∷ []) e.times).state ≡ e.first
  unfolding state_after
  agreed_left u us is = subst (λ (v : Told). (state_after (channel_of x) e.first (v ∷ []) e.times).state ≡ e.first) (heads _ u _ us is) refl

  pub told_short : (told : List Told) → Goes x took told
      → (done : List Outgoing) × AreTold h.ops done told
      × ((now : State) → ServerStands x took told e.first e.times now → now ≡ (left_by e.first (behind_first e.times) done).0)
      × IsPrefix told (told_by_turns e (singly done))
  told_short told g = by told (told_first connect reach e (singly h.ops) x took t told g)
    where
      by : (us : List Told) → IsPrefix us (told_by_turns e (singly h.ops))
          → (done : List Outgoing) × AreTold h.ops done us
          × ((now : State) → ServerStands x took us e.first e.times now → now ≡ (left_by e.first (behind_first e.times) done).0)
          × IsPrefix us (told_by_turns e (singly done))
      by [] p = (
        [],
        record { first = (h.ops, refl); handed = refl; alone = omega arith },
        λ now s. none_called [] now s nothing_left,
        (told_by_turns e [], refl),
      )
      by (u ∷ []) (more, is) = (
        [],
        record {
          first = (h.ops, refl);
          handed = ap (λ (v : Told). handed_in (v ∷ [])) (sym (heads _ u _ more is));
          alone = omega arith;
        },
        λ now s. none_called (u ∷ []) now s (agreed_left u more is),
        (first_token ∷ [], ap (λ (w : Told). w ∷ (first_token ∷ [])) (heads _ u _ more is)),
      )
      by (u ∷ (v ∷ us)) (more, is) =
          let one = heads _ u _ (v ∷ (us ++ more)) is in
          let rest = tails _ u _ (v ∷ (us ++ more)) is in
          let two = heads first_token v _ (us ++ more) rest in
          let are = are_of e (both_opened e) e.first (behind_first e.times) h.ops us (more, tails first_token v _ (us ++ more) rest) in
          let whole : u ∷ (v ∷ us) ≡ told_by_turns e (singly are.done) =
          ap (λ (w : Told). w ∷ (v ∷ us)) (sym one)
          ∙ ap (λ (ws : List Told). Agreed (agreement_of e.server (hello_to e.client e.url)) ∷ ws) (ap (λ (w : Told). w ∷ us) (sym two)
          ∙ ap (λ (ws : List Told). first_token ∷ ws) are.told_is) in (
            are.done,
            record {
              first = are.first;
              handed =
                  ap (λ (w : Told). handed_in (w ∷ (v ∷ us))) (sym one)
                  ∙ (ap (λ (w : Told). handed_in (w ∷ us)) (sym two) ∙ are.handed);
              alone = omega (arith, are.size);
            },
            λ now s.
                first_left connect reach e (singly h.ops) x took t (singly are.done) (first_singly are.done h.ops are.first) (u ∷ (v ∷ us)) now s whole
                ∙ state_singly e.first (behind_first e.times) are.done,
            ([], sym whole ∙ sym (append-nil (u ∷ (v ∷ us)))),
          )

  pub not_refused_short : (told : List Told) (code : ℕ) → RefusedAt x took told code → ⊥
  not_refused_short told code r = not_refused connect reach e (singly h.ops) x took t told code r

  pub not_closed_short : (told : List Told) → ClosedAt x took told → ⊥
  not_closed_short told c = not_closed connect reach e (singly h.ops) x took t told c

  -- of some of the calls it was told where all octets of these came
  pub whole_short : (z : ClientChannel) (first : History) → Did e z first → IsPrefix first.ops h.ops → (told : List Told) → Goes x took told
      → IsPrefix first.sent took ↔ (length first.ops + 2 ≤ length told)
  whole_short z first f p told g = (
    λ q.
        let r = first_told connect reach e (singly h.ops) x took t (singly first.ops) there told g
        (subst (λ (o : List ℕ). IsPrefix o took) j.sent_is q) in
        omega (arith, ap length r.1, length-append (told_by_turns e (singly first.ops)) r.0, size),
    λ enough.
        subst (λ (o : List ℕ). IsPrefix o took) (sym j.sent_is)
        (first_whole connect reach e (singly h.ops) x took t (singly first.ops) there told g (in_front enough)),
  )
    where
      j : IsPlain connect reach earlier e can z first
      j = plain connect reach earlier e can z first f

      there : AreFirstOf (singly first.ops) (singly h.ops)
      there = first_singly first.ops h.ops p

      size : length (told_by_turns e (singly first.ops)) ≡ length first.ops + 2
      size =
          let two : length (told_by_turns e (singly first.ops))
          ≡ suc (suc (length (rounds_told e.server e.channel (both_opened e) (rounds_in e (singly first.ops))))) = refl in
          omega (arith, two, length_told e (both_opened e) e.first (behind_first e.times) first.ops)

      front : IsPrefix told (told_by_turns e (singly h.ops))
      front = told_first connect reach e (singly h.ops) x took t told g

      in_front : length first.ops + 2 ≤ length told → IsPrefix (told_by_turns e (singly first.ops)) told
      in_front enough = longer told (told_by_turns e (singly first.ops)) (told_by_turns e (singly h.ops)) front (told_more e first.ops h.ops p)
          (omega (arith, enough, size))
