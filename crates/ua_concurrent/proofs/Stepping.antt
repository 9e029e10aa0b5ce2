-- What a step of one connection leaves of all.
use Rattle.std.proofs.Common.{◌≡◌, ◌<◌, inl, inr, ℕ, List, [], ◌∷◌, ◌++◌, ◌-◌, length, length-append, length-drop, take, drop, Option}
use Rattle.std.proofs.Common.{None, Some, Ok, Err, refl, sym, ap, subst, ◌∙◌, append_assoc, append-nil, arith}
use Rattle.std.proofs.lemmas.List.{append_cancel_left, length-take-le, take-append-drop, take_all}
use Rattle.std.specs.Prelude.{cond, nat_eq, Bool, true, false}
use Rattle.ua_builtin.specs.declared.date_time.DateTime.{DateTime}
use Rattle.ua_frame.specs.declared.limits.Limits.{Limits}
use Rattle.ua_channel.specs.ServerTold.{Told}
use Rattle.ua_channel.specs.declared.server.ServerChannel.{ServerChannel}
use Rattle.ua_nodes.specs.Table.{Nodes}
use Rattle.ua_frame.specs.Run.{Over, Stopped}
use Rattle.ua_structures.specs.declared.attribute.WriteValue.{WriteValue}
use Rattle.ua_server.specs.Now.{NowBy}
use Rattle.ua_server.specs.Said.{last_words}
use Rattle.ua_server.specs.Served.{channel_at, session_at, with_own_session}
use Rattle.ua_server.specs.Sharing.{SharedEvent, At, Changed, AmongBy, OthersStand, SharedState, StandsAmong}
use Rattle.ua_server.specs.Sharing.{StepAmong, answer_at, course_at, at_moment, opened, sent_to, shared_by, shared_over, told_by}
use Rattle.ua_server.specs.State.{State, with_nodes, with_session}
use Rattle.ua_server.specs.Stepping.{StepTakes}
use Rattle.ua_server.specs.Storing.{StoresBy}
use Rattle.ua_server.specs.declared.connection.Connection.{Connection}
use Rattle.ua_server.specs.declared.session.Session.{Session}
use Rattle.ua_server.specs.declared.step.End.{End}
use Rattle.ua_server.specs.declared.step.End.TheVariants as ending
use Rattle.ua_server.specs.declared.step.Step.{Step}
use Rattle.ua_server.specs.declared.step.StepFault.{StepFault}
use Rattle.ua_concurrent.specs.Acts.{Act, Acted, Stepping, Told as ToldStep, events_in, last_if, own_id, stored_in}
use Rattle.ua_concurrent.specs.Carried.{Carried}
use Rattle.ua_concurrent.specs.Seen.{Seen}
use Rattle.ua_concurrent.specs.Standing.{HasCome, TalkStands, Went}
use Rattle.ua_concurrent.specs.Talk.{Talk}
use Rattle.ua_concurrent.specs.Turning.{KeepsStep, phase_after_step}
use Rattle.ua_concurrent.specs.declared.outcome.Phase.{Phase}
use Rattle.ua_concurrent.specs.declared.outcome.Phase.TheVariants as phase
use Rattle.ua_concurrent.proofs.Acting.{shared_both}
use Rattle.ua_concurrent.proofs.Behind.{others_trans}
use Rattle.ua_concurrent.proofs.Storing.{stored_is}

-- the octets behind so many, as a slice has them
pub rest_of : (n : ℕ) (xs ys : List ℕ) → xs ≡ ys → take (length xs - n) (drop n xs) ≡ drop n ys
rest_of n xs ys same = take_all (length xs - n) (drop n xs) (simp length-drop (omega arith)) ∙ ap (drop n) same

-- a connection that said nothing is sent nothing
pub sent_none : (k : ℕ) (p : SharedState) (es : List SharedEvent) → told_by k es ≡ [] → sent_to own_id k p es ≡ []
sent_none k p [] e = refl
sent_none k p (Changed nodes ∷ es) e = sent_none k (shared_by own_id p (Changed nodes)) es e
sent_none k p (At j t moment ∷ es) e = by (nat_eq k j) e (λ f. sent_none k (shared_by own_id p (At j t moment)) es f)
  where
    by : (b : Bool) → cond b (t ∷ told_by k es) (told_by k es) ≡ [] → (told_by k es ≡ [] → sent_to own_id k (shared_by own_id p (At j t moment)) es ≡ [])
        → cond b (answer_at own_id p j t moment).0 [] ++ sent_to own_id k (shared_by own_id p (At j t moment)) es ≡ []
    by true e rest = cc
    by false e rest = rest e

-- what events in two parts are to a connection, and a change of the nodes: the laws of ua_server
pub record Laws : Type 0 where
  pub sent : (channels : ℕ → ℕ) (k : ℕ) (p : SharedState) (a b : List SharedEvent) → sent_to channels k p (a ++ b) ≡ sent_to channels k p a
      ++ sent_to channels k (shared_over channels p a) b
  pub told : (k : ℕ) (a b : List SharedEvent) → told_by k (a ++ b) ≡ told_by k a ++ told_by k b
  pub changed : (channels : ℕ → ℕ) (k : ℕ) (x : ServerChannel) (session : Option Session) (octets : List ℕ) (es : List SharedEvent) (first now : State)
      (nodes : Nodes)
      → StandsAmong channels k x session octets es first now → StandsAmong channels k x session octets (es ++ Changed nodes ∷ []) first (with_nodes now nodes)
  pub silent : (channels : ℕ → ℕ) (k : ℕ) (p : SharedState) (nodes : Nodes) → (sent_to channels k p (Changed nodes ∷ []) ≡ [])
      × (told_by k (Changed nodes ∷ []) ≡ [])

module _ (laws : Laws) where
  sent_changed : (j : ℕ) (es : List SharedEvent) (first : State) (nodes : Nodes) → sent_to own_id j (opened first) (es ++ Changed nodes ∷ [])
      ≡ sent_to own_id j (opened first) es
  sent_changed j es first nodes =
      laws.sent own_id j (opened first) es (Changed nodes ∷ [])
      ∙ ap (λ (x : List ℕ). sent_to own_id j (opened first) es ++ x) (laws.silent own_id j (shared_over own_id (opened first) es) nodes).0
      ∙ append-nil (sent_to own_id j (opened first) es)

  told_changed : (j : ℕ) (es : List SharedEvent) (first : State) (nodes : Nodes) → told_by j (es ++ Changed nodes ∷ []) ≡ told_by j es
  told_changed j es first nodes =
      laws.told j es (Changed nodes ∷ []) ∙ ap (λ (x : List Told). told_by j es ++ x) (laws.silent own_id j (opened first) nodes).1 ∙ append-nil (told_by j es)

  pub others_changed : (k : ℕ) (es : List SharedEvent) (first now : State) (nodes : Nodes)
      → OthersStand own_id k es (Changed nodes ∷ []) first now (with_nodes now nodes)
  others_changed k es first now nodes = λ j n.
      (told_changed j es first nodes, sent_changed j es first nodes, λ x session octets s. laws.changed own_id j x session octets es first now nodes s)

module _ {S A : Type 0} (seen : S → Seen) (acts : A → Act → A → Type 0) (laws : Laws) (es : List SharedEvent) (first before : State) (nodes : Nodes)
    (t : Talk S) (going : t.phase ≡ phase.Going) (s : TalkStands seen es first before t) (changed_state : State)
    (changed_is : changed_state ≡ with_nodes before nodes) where
  abbrev mid : List SharedEvent
  mid = es ++ Changed nodes ∷ []

  -- the server before the step, and after the application's change
  abbrev stood : SharedState
  stood = shared_over own_id (opened first) es

  abbrev changed : SharedState
  changed = shared_by own_id stood (Changed nodes)

  here : HasCome phase.Going t.number t.connection s.octets es first before (s.written ++ t.waiting)
  here = subst (λ (p : Phase). HasCome p t.number t.connection s.octets es first before (s.written ++ t.waiting)) going s.come

  -- where the application changed the nodes
  pub behind_change : HasCome phase.Going t.number t.connection s.octets mid first changed_state (s.written ++ t.waiting)
  behind_change = (
    subst (λ (x : State). StandsAmong own_id t.number (channel_at t.connection) (session_at t.connection) s.octets mid first x) (sym changed_is)
        (laws.changed own_id t.number (channel_at t.connection) (session_at t.connection) s.octets es first before nodes here.0),
    sent_changed laws t.number es first nodes ∙ here.1,
  )

  changed_at : shared_over own_id (opened first) mid ≡ changed
  changed_at = shared_both (opened first) es (Changed nodes ∷ [])

  -- the state as the connection sees it
  own_state : (course_at changed t.number).state ≡ with_own_session t.connection changed_state
  own_state =
      ap (λ (p : SharedState). (course_at p t.number).state) (sym changed_at)
      ∙ ap (λ (x : State). with_session x ((shared_over own_id (opened first) mid).own t.number).session) behind_change.0.state_is
      ∙ ap (λ (o : Option Session). with_session changed_state o) behind_change.0.session_is

  module _ (limits : Limits) (moment : DateTime) (piece : List ℕ) (piece_is : piece ≡ t.unread) (c : Connection) (now : State) (x y z : A)
      (acted : acts x (Acted before changed_state moment) y) where
    -- the step
    abbrev taken_step : List Told → Option Step → Stepping
    taken_step said step = record { number = t.number; nodes = nodes; moment = moment; said = said; step = step }

    -- what is lost where an allocation failed
    lost : (more : List SharedEvent) → (lost : List ℕ) × (sent_to own_id t.number (opened first) (mid ++ more) ≡ (s.written ++ t.waiting) ++ lost)
    lost more = (
      sent_to own_id t.number (shared_over own_id (opened first) mid) more,
      laws.sent own_id t.number (opened first) mid more
          ∙ ap (λ (x : List ℕ). x ++ sent_to own_id t.number (shared_over own_id (opened first) mid) more) behind_change.1,
    )

    -- the events of the step, behind those before
    all_is : (said : List Told) (step : Option Step) → mid ++ at_moment t.number moment said ≡ es ++ events_in (taken_step said step ∷ [])
    all_is said step =
        append_assoc es (Changed nodes ∷ []) (at_moment t.number moment said)
        ∙ ap (λ (more : List SharedEvent). es ++ more) (sym (append-nil (Changed nodes ∷ at_moment t.number moment said)))

    all_others : (said : List Told) (step : Option Step) → OthersStand own_id t.number mid (at_moment t.number moment said) first changed_state now
        → OthersStand own_id t.number es (events_in (taken_step said step ∷ [])) first before now
    all_others said step others =
        subst (λ (more : List SharedEvent). OthersStand own_id t.number es more first before now)
        (sym (append-nil (Changed nodes ∷ at_moment t.number moment said)))
        (others_trans t.number es (Changed nodes ∷ []) (at_moment t.number moment said) first before changed_state now
        (subst (λ (x : State). OthersStand own_id t.number es (Changed nodes ∷ []) first before x) (sym changed_is)
        (others_changed laws t.number es first before nodes))
        others)

    -- the application left the nodes, and gave the time
    did : acts x (Acted stood.state (with_nodes stood.state nodes) moment) y
    did =
        subst (λ (st : State). acts x (Acted st (with_nodes st nodes) moment) y) (sym here.0.state_is)
        (subst (λ (st : State). acts x (Acted before st moment) y) changed_is acted)

    pub went_starved : (fault : StepFault) → StepAmong limits own_id t.number moment piece (Err fault) (channel_at c) (session_at c) s.octets mid first
        changed_state now
        → Went seen acts es first (before, x) (now, y) s.octets (record t { connection = c; phase = phase.Starved })
    went_starved fault a = record {
      steps = taken_step a.told None ∷ [];
      own = (refl, tt);
      told = inr refl;
      acted = (y, record { mid = y; acted = did; told = refl }, refl);
      state_is = subst (λ (all : List SharedEvent). (shared_over own_id (opened first) all).state ≡ now) (all_is a.told None) a.left_is;
      stands = record {
        octets = s.octets;
        written = s.written;
        come = subst (λ (all : List SharedEvent). HasCome phase.Starved t.number c s.octets all first now (s.written ++ t.waiting)) (all_is a.told None)
            (lost (at_moment t.number moment a.told));
        carried = s.carried;
      };
      taken = omega arith;
      others = all_others a.told None a.others;
    }

    module _ (step : Step) (b : Talk S)
        (a : StepAmong limits own_id t.number moment piece (Ok step) (channel_at c) (session_at c) s.octets mid first changed_state now) where
      abbrev more : List SharedEvent
      more = at_moment t.number moment a.told

      among : AmongBy step.end own_id t.number (channel_at c) (session_at c) (s.octets ++ take step.taken piece) step.out.items mid more first changed_state now
      among = a.comes_to

      -- what is answered is what the server sends for it
      out_is : step.out.items ≡ sent_to own_id t.number changed more ++ last_if step.end
      out_is = by step.end among
        where
          sent : sent_to own_id t.number (opened first) (mid ++ more) ≡ sent_to own_id t.number (opened first) mid ++ sent_to own_id t.number changed more
          sent = laws.sent own_id t.number (opened first) mid more
              ∙ ap (λ (p : SharedState). sent_to own_id t.number (opened first) mid ++ sent_to own_id t.number p more) changed_at

          ends : (last : List ℕ) → sent_to own_id t.number (opened first) (mid ++ more) ++ last ≡ sent_to own_id t.number (opened first) mid ++ step.out.items
              → step.out.items ≡ sent_to own_id t.number changed more ++ last
          ends last e = append_cancel_left (sent_to own_id t.number (opened first) mid) step.out.items (sent_to own_id t.number changed more ++ last)
              (sym e ∙ ap (λ (o : List ℕ). o ++ last) sent
              ∙ append_assoc (sent_to own_id t.number (opened first) mid) (sent_to own_id t.number changed more) last)

          by : (end : Option End)
              → AmongBy end own_id t.number (channel_at c) (session_at c) (s.octets ++ take step.taken piece) step.out.items mid more first changed_state now
              → step.out.items ≡ sent_to own_id t.number changed more ++ last_if end
          by None x = ends [] (append-nil (sent_to own_id t.number (opened first) (mid ++ more)) ∙ x.1)
          by (Some ending.Closed) x = ends (last_words Over) x.2
          by (Some (ending.Refused code)) x = ends (last_words (Stopped code.code)) x.2
          by (Some ending.NoClose) x = absurd x
          by (Some ending.Cut) x = absurd x

      pub went_stepped : (items : List WriteValue) → 0 < length t.unread → StepTakes piece step
          → NowBy (channel_at t.connection) moment piece step.end step.taken step.out.items (channel_at c) s.octets (told_by t.number mid)
          (with_own_session t.connection changed_state) (with_own_session c now)
          → StoresBy piece step.end step.taken step.out.items items (channel_at c) s.octets (told_by t.number mid) (with_own_session t.connection changed_state)
          → acts y (ToldStep t.number step items) z
          → KeepsStep step (record t { connection = c }) b → Went seen acts es first (before, x) (now, z) s.octets b
      went_stepped items some takes nows stores telling keeps = record {
        steps = taken_step a.told (Some step) ∷ [];
        own = (sym (number keeps), tt);
        told = inl (refl, tt);
        acted = (z, record { mid = y; acted = did; told = (out_is, λ end. takes.1 end (omega (arith, some, ap length piece_is)), told) }, refl);
        state_is = subst (λ (all : List SharedEvent). (shared_over own_id (opened first) all).state ≡ now) (all_is a.told (Some step)) a.left_is;
        stands = record { octets = octets; written = s.written; come = come keeps; carried = carried keeps };
        taken = let more = length-append s.octets (take step.taken t.unread) in
            let same = ap length piece_is in
            let front = length-take-le step.taken t.unread (omega (arith, same, takes.0)) in
            omega (arith, more, front);
        others = subst (λ (k : ℕ). OthersStand own_id k es (events_in (taken_step a.told (Some step) ∷ [])) first before now) (sym (number keeps))
            (all_others a.told (Some step) a.others);
      }
        where
          number : KeepsStep step (record t { connection = c }) b → b.number ≡ t.number
          number (inl is) = ap (λ (x : Talk S). x.number) is
          number (inr is) = ap (λ (x : Talk S). x.number) is

          octets : List ℕ
          octets = s.octets ++ take step.taken t.unread

          told : acts y (ToldStep t.number step (stored_in (course_at changed t.number).state a.told)) z
          told = subst (λ (i : List WriteValue). acts y (ToldStep t.number step i) z)
              (stored_is t.number moment piece step.taken step.out.items (channel_at t.connection) (channel_at c) (session_at c) s.octets mid first
              changed_state now (with_own_session t.connection changed_state) (with_own_session c now) (course_at changed t.number).state items a.told
              own_state laws.told step.end among nows stores)
              telling

          carried_on : (d : Carried) → (seen t.socket).heard ≡ Some d → (d.read ≡ octets ++ drop step.taken t.unread) × (d.written ≡ s.written)
          carried_on d e =
              let was = s.carried d e in (
                was.0 ∙ sym (append_assoc s.octets (take step.taken t.unread) (drop step.taken t.unread)
                    ∙ ap (λ (x : List ℕ). s.octets ++ x) (take-append-drop step.taken t.unread)),
                was.1,
              )

          carried : KeepsStep step (record t { connection = c }) b → (d : Carried) → (seen b.socket).heard ≡ Some d
              → (d.read ≡ octets ++ b.unread) × (d.written ≡ s.written)
          carried (inl is) = subst (λ (v : Talk S). (d : Carried) → (seen v.socket).heard ≡ Some d → (d.read ≡ octets ++ v.unread) × (d.written ≡ s.written))
              (sym is) carried_on
          carried (inr is) = subst (λ (v : Talk S). (d : Carried) → (seen v.socket).heard ≡ Some d → (d.read ≡ octets ++ v.unread) × (d.written ≡ s.written))
              (sym is) carried_on

          sent : (all : List ℕ) → all ≡ sent_to own_id t.number (opened first) mid ++ step.out.items → all ≡ s.written ++ (t.waiting ++ step.out.items)
          sent all e = e ∙ ap (λ (x : List ℕ). x ++ step.out.items) behind_change.1 ∙ append_assoc s.written t.waiting step.out.items

          come_by : (end : Option End) → AmongBy end own_id t.number (channel_at c) (session_at c) octets step.out.items mid more first changed_state now
              → HasCome (phase_after_step end) t.number c octets (mid ++ more) first now (s.written ++ (t.waiting ++ step.out.items))
          come_by None x = (x.0, sent _ x.1)
          come_by (Some ending.Closed) x = (x.0, sent _ x.2)
          come_by (Some (ending.Refused code)) x = (x.0, sent _ x.2)
          come_by (Some ending.NoClose) x = absurd x
          come_by (Some ending.Cut) x = absurd x

          come : KeepsStep step (record t { connection = c }) b
              → HasCome b.phase b.number b.connection octets (es ++ events_in (taken_step a.told (Some step) ∷ []))
              first now (s.written ++ b.waiting)
          come (inl is) =
              subst (λ (v : Talk S). HasCome v.phase v.number v.connection octets (es ++ events_in (taken_step a.told (Some step) ∷ [])) first now
              (s.written ++ v.waiting)) (sym is)
              (subst (λ (all : List SharedEvent). HasCome (phase_after_step step.end) t.number c octets all first now
              (s.written ++ (t.waiting ++ step.out.items)))
              (all_is a.told (Some step))
              (come_by step.end
              (subst (λ (x : List ℕ). AmongBy step.end own_id t.number (channel_at c) (session_at c) (s.octets ++ take step.taken x) step.out.items mid more
              first changed_state now) piece_is among)))
          come (inr is) =
              subst (λ (v : Talk S). HasCome v.phase v.number v.connection octets (es ++ events_in (taken_step a.told (Some step) ∷ [])) first now
              (s.written ++ v.waiting)) (sym is)
              (subst (λ (all : List SharedEvent). HasCome phase.Starved t.number c octets all first now (s.written ++ t.waiting))
              (all_is a.told (Some step)) (lost more))
