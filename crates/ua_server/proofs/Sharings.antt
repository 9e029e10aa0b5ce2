-- Several connections over one AddressSpace: each is answered as by one server.
use Rattle.std.specs.Prelude.{◌≡◌, ℕ, nat_eq, cond, Bool, true, false, List, [], ◌∷◌, ◌++◌, take, Option, None, Some, Result, Ok, Err}
use Rattle.std.proofs.Common.{refl, sym, ◌∙◌, ap, subst, append_assoc, append-nil}
use Rattle.std.proofs.lemmas.Bool.{eq-eqb, eqb-true}
use Rattle.ua_builtin.specs.declared.date_time.DateTime.{DateTime}
use Rattle.ua_frame.specs.Run.{End, Stopped, Over}
use Rattle.ua_channel.specs.ServerStands.{limits_of, channel_of, next_of, Goes}
use Rattle.ua_channel.specs.ServerTold.{Told, Agreed, Opened, Asked, GaveUp, Closed}
use Rattle.ua_channel.specs.declared.server.ServerChannel.{ServerChannel}
use Rattle.ua_nodes.specs.Table.{Nodes}
use Rattle.ua_server.specs.History.{ConnectionEvent, Heard, Became, EndedAt, EndsOver, IsHandled, OverBy, ResultOver, StandsOver}
use Rattle.ua_server.specs.History.{course_over, event_answer, heard_at, output_over, told_in, with_changes}
use Rattle.ua_server.specs.Now.{StepNow}
use Rattle.ua_server.specs.Sharing.{SharedEvent, At, Changed, Own, SharedState, AmongBy, EndsAmong, OthersStand, ResultAmong, StandsAmong, StepAmong}
use Rattle.ua_server.specs.Sharing.{answer_at, at_moment, course_at, opened, seen_as, seen_by}
use Rattle.ua_server.specs.Sharing.{sent_for_event, sent_to, shared_by, shared_over, told_by, with_course}
use Rattle.ua_server.specs.Said.{Course, first_time, last_words, say, start}
use Rattle.ua_server.specs.State.{State, begun, with_nodes, with_session}
use Rattle.ua_server.specs.Stepping.{times_of_answers}
use Rattle.ua_server.specs.declared.endpoint.Endpoint.{Endpoint}
use Rattle.ua_server.specs.declared.session.Session.{Session}
use Rattle.ua_server.specs.declared.step.End.{End as Ending}
use Rattle.ua_server.specs.declared.step.End.TheVariants as ending
use Rattle.ua_server.specs.declared.step.Step.{Step}
use Rattle.ua_server.specs.declared.step.StepFault.{StepFault}
use Rattle.ua_server.specs.declared.step.StepFault.TheVariants as step_fault
use Rattle.ua_server.proofs.EndpointStays.{answered-limit, answered-stays}
use Rattle.ua_server.proofs.Histories.{step_over}

-- ---- numbers of connections

pub same-number : (k : ℕ) → nat_eq k k ≡ true
same-number k = eq-eqb k k refl

pub number-is : (j k : ℕ) → nat_eq j k ≡ true → j ≡ k
number-is j k e = eqb-true j k e

not-true : (b : Bool) → (b ≡ true → ⊥) → b ≡ false
not-true true h = absurd (h refl)
not-true false h = refl

pub other-number : (j k : ℕ) → (j ≡ k → ⊥) → nat_eq j k ≡ false
other-number j k apart = not-true (nat_eq j k) (λ e. apart (number-is j k e))

-- ---- no event changes what the server says of itself, nor its limit of memory

abbrev Stays : State → State → Type 0
Stays s t = (t.endpoint ≡ s.endpoint) × (t.memory_limit ≡ s.memory_limit)

say-stays : (channel : ℕ) (c : Course) (t : Told) → Stays c.state (say channel c t).1.state
say-stays channel c (Agreed agreement) = (refl, refl)
say-stays channel c (Opened id handle token lifetime) = (refl, refl)
say-stays channel c (Asked id token octets) = (answered-stays c.state (first_time c.moments) octets, answered-limit c.state (first_time c.moments) octets)
say-stays channel c (GaveUp id) = (refl, refl)
say-stays channel c Closed = (refl, refl)

answer-stays : (channels : ℕ → ℕ) (p : SharedState) (k : ℕ) (t : Told) (moment : DateTime) → Stays p.state (answer_at channels p k t moment).1.state
answer-stays channels p k t moment =
    say-stays (channels k)
    (record {
      state = with_session p.state (p.own k).session;
      number = (p.own k).number;
      moments = times_of_answers (t ∷ []) moment;
      agreement = (p.own k).agreement;
    }) t

-- ---- one event, as a connection sees it

-- how far a connection is where it has come so far, and where another has
course-own : (p : SharedState) (k : ℕ) (c : Course) → c.moments ≡ [] → Stays p.state c.state → course_at (with_course p k c) k ≡ c
course-own p k c none same =
    ap (λ (b : Bool). record {
      state = with_session (with_changes p.state c.state.nodes c.state.made)
          (cond b (record { session = c.state.session; number = c.number; agreement = c.agreement }) (p.own k)).session;
      number = (cond b (record { session = c.state.session; number = c.number; agreement = c.agreement }) (p.own k)).number;
      moments = [];
      agreement = (cond b (record { session = c.state.session; number = c.number; agreement = c.agreement }) (p.own k)).agreement;
    }) (same-number k)
    ∙ (ap (λ (e : Endpoint).
    record {
      state = record { nodes = c.state.nodes; endpoint = e; memory_limit = p.state.memory_limit; made = c.state.made; session = c.state.session };
      number = c.number;
      moments = [];
      agreement = c.agreement;
    }) (sym same.0)
    ∙ ap (λ (o : Option ℕ).
    record {
      state = record { nodes = c.state.nodes; endpoint = c.state.endpoint; memory_limit = o; made = c.state.made; session = c.state.session };
      number = c.number;
      moments = [];
      agreement = c.agreement;
    }) (sym same.1)
    ∙ ap (λ (ms : List DateTime). record { state = c.state; number = c.number; moments = ms; agreement = c.agreement }) (sym none))

course-other : (p : SharedState) (j k : ℕ) (c : Course) → nat_eq k j ≡ false
    → course_at (with_course p j c) k ≡ (event_answer 0 (course_at p k) (Became c.state.nodes c.state.made)).1
course-other p j k c apart =
    ap (λ (b : Bool). record {
      state = with_session (with_changes p.state c.state.nodes c.state.made)
          (cond b (record { session = c.state.session; number = c.number; agreement = c.agreement }) (p.own k)).session;
      number = (cond b (record { session = c.state.session; number = c.number; agreement = c.agreement }) (p.own k)).number;
      moments = [];
      agreement = (cond b (record { session = c.state.session; number = c.number; agreement = c.agreement }) (p.own k)).agreement;
    }) apart

-- what one event is to a connection: how far it is behind it, and what it is sent
abbrev SeesOne : (ℕ → ℕ) → ℕ → SharedState → SharedEvent → Type 0
SeesOne channels k p e =
    (course_at (shared_by channels p e) k ≡ (event_answer (channels k) (course_at p k) (seen_as channels k p e)).1)
    × (sent_for_event channels k p e ≡ (event_answer (channels k) (course_at p k) (seen_as channels k p e)).0)

sees-one : (channels : ℕ → ℕ) (k : ℕ) (p : SharedState) (e : SharedEvent) → SeesOne channels k p e
sees-one channels k p (Changed nodes) = (refl, refl)
sees-one channels k p (At j t moment) = by (nat_eq k j) refl
  where
    by : (b : Bool) → nat_eq k j ≡ b → SeesOne channels k p (At j t moment)
    by true e =
        let c = (answer_at channels p k t moment).1 in
        let seen : seen_as channels k p (At j t moment) ≡ Heard t moment =
        ap (λ (b : Bool). cond b (Heard t moment) (Became (answer_at channels p j t moment).1.state.nodes (answer_at channels p j t moment).1.state.made)) e in
        let here : j ≡ k = sym (number-is k j e) in (
          ap (λ (i : ℕ). course_at (with_course p i (answer_at channels p i t moment).1) k) here
              ∙ (course-own p k c refl (answer-stays channels p k t moment)
              ∙ ap (λ (h : ConnectionEvent). (event_answer (channels k) (course_at p k) h).1) (sym seen)),
          ap (λ (b : Bool). cond b (answer_at channels p j t moment).0 []) e
              ∙ (ap (λ (i : ℕ). (answer_at channels p i t moment).0) here
              ∙ ap (λ (h : ConnectionEvent). (event_answer (channels k) (course_at p k) h).0) (sym seen)),
        )
    by false e =
        let c = (answer_at channels p j t moment).1 in
        let seen : seen_as channels k p (At j t moment) ≡ Became c.state.nodes c.state.made =
        ap (λ (b : Bool). cond b (Heard t moment) (Became c.state.nodes c.state.made)) e in (
          course-other p j k c e ∙ ap (λ (h : ConnectionEvent). (event_answer (channels k) (course_at p k) h).1) (sym seen),
          ap (λ (b : Bool). cond b (answer_at channels p j t moment).0 []) e
              ∙ ap (λ (h : ConnectionEvent). (event_answer (channels k) (course_at p k) h).0) (sym seen),
        )

-- ---- all events, as a connection sees them

pub course-seen : (channels : ℕ → ℕ) (k : ℕ) (p : SharedState) (es : List SharedEvent)
    → course_at (shared_over channels p es) k ≡ course_over (channels k) (course_at p k) (seen_by channels k p es)
course-seen channels k p [] = refl
course-seen channels k p (e ∷ es) =
    course-seen channels k (shared_by channels p e) es
    ∙ ap (λ (c : Course). course_over (channels k) c (seen_by channels k (shared_by channels p e) es)) (sees-one channels k p e).0

pub sent-seen : (channels : ℕ → ℕ) (k : ℕ) (p : SharedState) (es : List SharedEvent)
    → sent_to channels k p es ≡ output_over (channels k) (course_at p k) (seen_by channels k p es)
sent-seen channels k p [] = refl
sent-seen channels k p (e ∷ es) =
    ap (λ (o : List ℕ). sent_for_event channels k p e ++ o) (sent-seen channels k (shared_by channels p e) es
    ∙ ap (λ (c : Course). output_over (channels k) c (seen_by channels k (shared_by channels p e) es)) (sees-one channels k p e).0)
    ∙ ap (λ (o : List ℕ). o ++ output_over (channels k) (event_answer (channels k) (course_at p k) (seen_as channels k p e)).1
    (seen_by channels k (shared_by channels p e) es)) (sees-one channels k p e).1

pub told-seen : (channels : ℕ → ℕ) (k : ℕ) (p : SharedState) (es : List SharedEvent) → told_in (seen_by channels k p es) ≡ told_by k es
told-seen channels k p [] = refl
told-seen channels k p (Changed nodes ∷ es) = told-seen channels k (shared_by channels p (Changed nodes)) es
told-seen channels k p (At j t moment ∷ es) = by (nat_eq k j) (told-seen channels k (shared_by channels p (At j t moment)) es)
  where
    c : Course
    c = (answer_at channels p j t moment).1

    rest : List ConnectionEvent
    rest = seen_by channels k (shared_by channels p (At j t moment)) es

    by : (b : Bool) → told_in rest ≡ told_by k es → told_in (cond b (Heard t moment) (Became c.state.nodes c.state.made) ∷ rest) ≡ cond b (t ∷ told_by k es)
        (told_by k es)
    by true e = ap (λ (ts : List Told). t ∷ ts) e
    by false e = e

-- ---- in two parts

pub shared-append : (channels : ℕ → ℕ) (p : SharedState) (a b : List SharedEvent)
    → shared_over channels p (a ++ b) ≡ shared_over channels (shared_over channels p a) b
shared-append channels p [] b = refl
shared-append channels p (e ∷ a) b = shared-append channels (shared_by channels p e) a b

seen-append : (channels : ℕ → ℕ) (k : ℕ) (p : SharedState) (a b : List SharedEvent) → seen_by channels k p (a ++ b) ≡ seen_by channels k p a
    ++ seen_by channels k (shared_over channels p a) b
seen-append channels k p [] b = refl
seen-append channels k p (e ∷ a) b = ap (λ (hs : List ConnectionEvent). seen_as channels k p e ∷ hs) (seen-append channels k (shared_by channels p e) a b)

pub sent-append : (channels : ℕ → ℕ) (k : ℕ) (p : SharedState) (a b : List SharedEvent) → sent_to channels k p (a ++ b) ≡ sent_to channels k p a
    ++ sent_to channels k (shared_over channels p a) b
sent-append channels k p [] b = refl
sent-append channels k p (e ∷ a) b =
    ap (λ (o : List ℕ). sent_for_event channels k p e ++ o) (sent-append channels k (shared_by channels p e) a b)
    ∙ sym (append_assoc (sent_for_event channels k p e) (sent_to channels k (shared_by channels p e) a)
    (sent_to channels k (shared_over channels (shared_by channels p e) a) b))

pub told-append : (k : ℕ) (a b : List SharedEvent) → told_by k (a ++ b) ≡ told_by k a ++ told_by k b
told-append k [] b = refl
told-append k (Changed nodes ∷ a) b = told-append k a b
told-append k (At j t moment ∷ a) b = by (nat_eq k j) (told-append k a b)
  where
    by : (x : Bool) → told_by k (a ++ b) ≡ told_by k a ++ told_by k b → cond x (t ∷ told_by k (a ++ b)) (told_by k (a ++ b)) ≡ cond x (t ∷ told_by k a)
        (told_by k a) ++ told_by k b
    by true e = ap (λ (ts : List Told). t ∷ ts) e
    by false e = e

-- ---- events of one connection alone

seen-own : (channels : ℕ → ℕ) (k : ℕ) (p : SharedState) (moment : DateTime) (told : List Told)
    → seen_by channels k p (at_moment k moment told) ≡ heard_at moment told
seen-own channels k p moment [] = refl
seen-own channels k p moment (t ∷ told) =
    ap (λ (b : Bool). cond b (Heard t moment) (Became (answer_at channels p k t moment).1.state.nodes (answer_at channels p k t moment).1.state.made)
    ∷ seen_by channels k (shared_by channels p (At k t moment)) (at_moment k moment told)) (same-number k)
    ∙ ap (λ (hs : List ConnectionEvent). Heard t moment ∷ hs) (seen-own channels k (shared_by channels p (At k t moment)) moment told)

pub told-other : (j k : ℕ) (moment : DateTime) (told : List Told) → nat_eq j k ≡ false → told_by j (at_moment k moment told) ≡ []
told-other j k moment [] e = refl
told-other j k moment (t ∷ told) e = ap (λ (b : Bool). cond b (t ∷ told_by j (at_moment k moment told)) (told_by j (at_moment k moment told))) e
    ∙ told-other j k moment told e

pub sent-other : (channels : ℕ → ℕ) (j k : ℕ) (p : SharedState) (moment : DateTime) (told : List Told) → nat_eq j k ≡ false
    → sent_to channels j p (at_moment k moment told) ≡ []
sent-other channels j k p moment [] e = refl
sent-other channels j k p moment (t ∷ told) e =
    ap (λ (b : Bool). cond b (answer_at channels p k t moment).0 [] ++ sent_to channels j (shared_by channels p (At k t moment)) (at_moment k moment told)) e
    ∙ sent-other channels j k (shared_by channels p (At k t moment)) moment told e

own-other : (channels : ℕ → ℕ) (j k : ℕ) (p : SharedState) (moment : DateTime) (told : List Told) → nat_eq j k ≡ false
    → (shared_over channels p (at_moment k moment told)).own j ≡ p.own j
own-other channels j k p moment [] e = refl
own-other channels j k p moment (t ∷ told) e =
    own-other channels j k (shared_by channels p (At k t moment)) moment told e
    ∙ ap (λ (b : Bool).
    cond b (record {
      session = (answer_at channels p k t moment).1.state.session;
      number = (answer_at channels p k t moment).1.number;
      agreement = (answer_at channels p k t moment).1.agreement;
    }) (p.own j)) e

-- the session of the state is that of no connection
session-apart : (channels : ℕ → ℕ) (p : SharedState) (es : List SharedEvent) → (shared_over channels p es).state.session ≡ p.state.session
session-apart channels p [] = refl
session-apart channels p (At k t moment ∷ es) = session-apart channels (shared_by channels p (At k t moment)) es
session-apart channels p (Changed nodes ∷ es) = session-apart channels (shared_by channels p (Changed nodes)) es

-- ---- where a connection stands

same-state : (a b : State) (mine theirs : Option Session) → with_session a mine ≡ with_session b theirs → a.session ≡ b.session → a ≡ b
same-state a b mine theirs e s =
    ap (λ (x : State). record { nodes = x.nodes; endpoint = x.endpoint; memory_limit = x.memory_limit; made = x.made; session = a.session }) e
    ∙ ap (λ (o : Option Session). record { nodes = b.nodes; endpoint = b.endpoint; memory_limit = b.memory_limit; made = b.made; session = o }) s

-- a connection that stands among others stands over what it sees
pub stands-over : (channels : ℕ → ℕ) (k : ℕ) (x : ServerChannel) (session : Option Session) (octets : List ℕ) (es : List SharedEvent) (first now : State)
    → StandsAmong channels k x session octets es first now
    → StandsOver x octets (seen_by channels k (opened first) es) (begun first) (with_session now session)
stands-over channels k x session octets es first now s =
    let seen = seen_by channels k (opened first) es in
    let here : course_over (channel_of x) (start (begun first) []) seen ≡ course_at (shared_over channels (opened first) es) k =
    ap (λ (c : ℕ). course_over c (start (begun first) []) seen) s.channel_is ∙ sym (course-seen channels k (opened first) es) in
    record {
      goes = subst (λ (t : List Told). Goes x octets t) (sym (told-seen channels k (opened first) es)) s.goes;
      state_is = ap (λ (c : Course). c.state) here
          ∙ (ap (λ (o : Option Session). with_session (shared_over channels (opened first) es).state o) s.session_is
          ∙ ap (λ (n : State). with_session n session) s.state_is);
      number_is = ap (λ (c : Course). c.number) here ∙ s.number_is;
    }

-- a connection of which no frame told anything has of its own what it had
own-none : (channels : ℕ → ℕ) (k : ℕ) (p : SharedState) (es : List SharedEvent) → told_by k es ≡ [] → (shared_over channels p es).own k ≡ p.own k
own-none channels k p [] h = refl
own-none channels k p (Changed nodes ∷ es) h = own-none channels k (shared_by channels p (Changed nodes)) es h
own-none channels k p (At j t moment ∷ es) h = by (nat_eq k j) refl h (own-none channels k (shared_by channels p (At j t moment)) es)
  where
    by : (b : Bool) → nat_eq k j ≡ b → cond b (t ∷ told_by k es) (told_by k es) ≡ []
        → (told_by k es ≡ [] → (shared_over channels (shared_by channels p (At j t moment)) es).own k ≡ (shared_by channels p (At j t moment)).own k)
        → (shared_over channels (shared_by channels p (At j t moment)) es).own k ≡ p.own k
    by true e f more = absurd cc
    by false e f more =
        more f
        ∙ ap (λ (b : Bool).
        cond b (record {
          session = (answer_at channels p j t moment).1.state.session;
          number = (answer_at channels p j t moment).1.number;
          agreement = (answer_at channels p j t moment).1.agreement;
        }) (p.own k)) e

-- before its first octet, whatever happened to others
pub stands_first : (channels : ℕ → ℕ) (k : ℕ) (x : ServerChannel) (es : List SharedEvent) (first now : State) → Goes x [] [] → next_of x ≡ 1
    → channel_of x ≡ channels k → told_by k es ≡ []
    → (shared_over channels (opened first) es).state ≡ now → StandsAmong channels k x None [] es first now
stands_first channels k x es first now goes next channel none state = record {
  channel_is = channel;
  goes = subst (λ (t : List Told). Goes x [] t) (sym none) goes;
  state_is = state;
  session_is = ap (λ (o : Own). o.session) (own-none channels k (opened first) es none);
  number_is = ap (λ (o : Own). o.number) (own-none channels k (opened first) es none) ∙ sym next;
}

-- the application changes the nodes
pub stands_changed : (channels : ℕ → ℕ) (k : ℕ) (x : ServerChannel) (session : Option Session) (octets : List ℕ) (es : List SharedEvent) (first now : State)
    (nodes : Nodes) → StandsAmong channels k x session octets es first now
    → StandsAmong channels k x session octets (es ++ Changed nodes ∷ []) first (with_nodes now nodes)
stands_changed channels k x session octets es first now nodes s =
    let behind = shared-append channels (opened first) es (Changed nodes ∷ []) in
    record {
      channel_is = s.channel_is;
      goes = subst (λ (t : List Told). Goes x octets t) (sym (told-append k es (Changed nodes ∷ []) ∙ append-nil (told_by k es))) s.goes;
      state_is = ap (λ (p : SharedState). p.state) behind ∙ ap (λ (n : State). with_nodes n nodes) s.state_is;
      session_is = ap (λ (p : SharedState). (p.own k).session) behind ∙ s.session_is;
      number_is = ap (λ (p : SharedState). (p.own k).number) behind ∙ s.number_is;
    }

-- ---- a step of one connection

module _ (channels : ℕ → ℕ) (k : ℕ) (old new : ServerChannel) (session session' : Option Session) (moment : DateTime) (piece octets : List ℕ)
    (es : List SharedEvent) (first before now : State)
    (s : StandsAmong channels k old session octets es first before) (same : channel_of new ≡ channel_of old) (apart : now.session ≡ before.session) where
  -- what the connection sees of the events so far, and how far the server is behind more of its own
  abbrev seen : List ConnectionEvent
  seen = seen_by channels k (opened first) es

  abbrev begins : Course
  begins = start (begun first) []

  seen-more : (told : List Told) → seen_by channels k (opened first) (es ++ at_moment k moment told) ≡ seen ++ heard_at moment told
  seen-more told = seen-append channels k (opened first) es (at_moment k moment told)
      ∙ ap (λ (hs : List ConnectionEvent). seen ++ hs) (seen-own channels k (shared_over channels (opened first) es) moment told)

  course-more : (told : List Told) → course_at (shared_over channels (opened first) (es ++ at_moment k moment told)) k ≡ course_over (channel_of old) begins
      (seen ++ heard_at moment told)
  course-more told =
      course-seen channels k (opened first) (es ++ at_moment k moment told)
      ∙ (ap (λ (hs : List ConnectionEvent). course_over (channels k) begins hs) (seen-more told)
      ∙ ap (λ (c : ℕ). course_over c begins (seen ++ heard_at moment told)) (sym s.channel_is))

  sent-more : (told : List Told) → sent_to channels k (opened first) (es ++ at_moment k moment told) ≡ output_over (channel_of old) begins
      (seen ++ heard_at moment told)
  sent-more told =
      sent-seen channels k (opened first) (es ++ at_moment k moment told)
      ∙ (ap (λ (hs : List ConnectionEvent). output_over (channels k) begins hs) (seen-more told)
      ∙ ap (λ (c : ℕ). output_over c begins (seen ++ heard_at moment told)) (sym s.channel_is))

  sent-before : output_over (channel_of old) begins seen ≡ sent_to channels k (opened first) es
  sent-before = ap (λ (c : ℕ). output_over c begins seen) s.channel_is ∙ sym (sent-seen channels k (opened first) es)

  told-more : (told : List Told) → told_in (seen ++ heard_at moment told) ≡ told_by k (es ++ at_moment k moment told)
  told-more told = ap (λ (hs : List ConnectionEvent). told_in hs) (sym (seen-more told)) ∙ told-seen channels k (opened first) (es ++ at_moment k moment told)

  module _ (told : List Told) (left : (course_over (channel_of old) begins (seen ++ heard_at moment told)).state ≡ with_session now session') where
    state-more : with_session (shared_over channels (opened first) (es ++ at_moment k moment told)).state
        ((shared_over channels (opened first) (es ++ at_moment k moment told)).own k).session ≡ with_session now session'
    state-more = ap (λ (c : Course). c.state) (course-more told) ∙ left

    shared-more : (shared_over channels (opened first) (es ++ at_moment k moment told)).state ≡ now
    shared-more =
        same-state (shared_over channels (opened first) (es ++ at_moment k moment told)).state now
        ((shared_over channels (opened first) (es ++ at_moment k moment told)).own k).session session' state-more
        (session-apart channels (opened first) (es ++ at_moment k moment told)
        ∙ (sym (session-apart channels (opened first) es) ∙ (ap (λ (n : State). n.session) s.state_is ∙ sym apart)))

    ends : (end : End ℕ) (n : ℕ) (out : List ℕ) → EndsOver end new (channel_of old) (octets ++ take n piece) out seen (heard_at moment told) (begun first)
        (with_session before session) (with_session now session')
        → EndsAmong end channels k new (octets ++ take n piece) out es (at_moment k moment told) first before now
    ends end n out g = (
      subst (λ (t : List Told). EndedAt end new (octets ++ take n piece) t) (told-more told) g.0,
      same-state now before session' session g.1 apart,
      ap (λ (o : List ℕ). o ++ last_words end) (sent-more told) ∙ (g.2 ∙ ap (λ (o : List ℕ). o ++ out) sent-before),
    )

    mine : (end : Option Ending) (n : ℕ) (out : List ℕ) → OverBy end new (channel_of old) (octets ++ take n piece) out seen (heard_at moment told) (begun first)
        (with_session before session) (with_session now session')
        → AmongBy end channels k new session' (octets ++ take n piece) out es (at_moment k moment told) first before now
    mine None n out g = (
      record {
        channel_is = same ∙ s.channel_is;
        goes = subst (λ (t : List Told). Goes new (octets ++ take n piece) t) (told-more told) g.0.goes;
        state_is = shared-more;
        session_is = ap (λ (n : State). n.session) state-more;
        number_is = ap (λ (c : Course). c.number) (course-more told) ∙ (ap (λ (c : ℕ). (course_over c begins (seen ++ heard_at moment told)).number) (sym same)
            ∙ g.0.number_is);
      },
      sent-more told ∙ (g.1 ∙ ap (λ (o : List ℕ). o ++ out) sent-before),
    )
    mine (Some ending.Closed) n out g = ends Over n out g
    mine (Some (ending.Refused code)) n out g = ends (Stopped code.code) n out g
    mine (Some ending.NoClose) n out g = absurd g
    mine (Some ending.Cut) n out g = absurd g

    results : (result : Result Step StepFault) → ResultOver (limits_of old) (channel_of old) piece result new octets seen (heard_at moment told) told
        (begun first) (with_session before session) (with_session now session')
        → ResultAmong (limits_of old) channels k piece result new session' octets es (at_moment k moment told) told first before now
    results (Ok step) g = mine step.end step.taken step.out.items g
    results (Err step_fault.OutOfMemory) g = (
      g.0,
      subst (λ (c : ℕ). IsHandled (limits_of old) c piece octets (told_by k es) told) s.channel_is
          (subst (λ (t : List Told). IsHandled (limits_of old) (channel_of old) piece octets t told) (told-seen channels k (opened first) es) g.1),
    )
    results (Err step_fault.Closed) g = absurd g

    -- another connection
    others : OthersStand channels k es (at_moment k moment told) first before now
    others j differ =
        let e = other-number j k differ in
        let p = shared_over channels (opened first) es in
        let behind = shared-append channels (opened first) es (at_moment k moment told) in
        let owns : (shared_over channels (opened first) (es ++ at_moment k moment told)).own j ≡ p.own j =
        ap (λ (q : SharedState). q.own j) behind ∙ own-other channels j k p moment told e in
        let hears : told_by j (es ++ at_moment k moment told) ≡ told_by j es =
        told-append j es (at_moment k moment told) ∙ (ap (λ (t : List Told). told_by j es ++ t) (told-other j k moment told e) ∙ append-nil (told_by j es)) in (
          hears,
          sent-append channels j (opened first) es (at_moment k moment told)
              ∙ (ap (λ (w : List ℕ). sent_to channels j (opened first) es ++ w) (sent-other channels j k p moment told e)
              ∙ append-nil (sent_to channels j (opened first) es)),
          λ x theirs sent o. record {
            channel_is = o.channel_is;
            goes = subst (λ (t : List Told). Goes x sent t) (sym hears) o.goes;
            state_is = shared-more;
            session_is = ap (λ (w : Own). w.session) owns ∙ o.session_is;
            number_is = ap (λ (w : Own). w.number) owns ∙ o.number_is;
          },
        )

-- a step of one connection, by what it is over what the connection sees
pub step_among : (channels : ℕ → ℕ) (k : ℕ) (old new : ServerChannel) (session session' : Option Session) (moment : DateTime) (piece octets : List ℕ)
    (es : List SharedEvent) (first before now : State) (result : Result Step StepFault)
    → StandsAmong channels k old session octets es first before → channel_of new ≡ channel_of old → now.session ≡ before.session
    → ((told : List Told) → Goes old octets told
    → StepNow old moment piece result new octets told (with_session before session) (with_session now session'))
    → StepAmong (limits_of old) channels k moment piece result new session' octets es first before now
step_among channels k old new session session' moment piece octets es first before now result s same apart steps =
    let hs = seen_by channels k (opened first) es in
    let o = stands-over channels k old session octets es first before s in
    let g = step_over old new moment piece octets hs (begun first) (with_session before session) (with_session now session') result o same
    (steps (told_in hs) o.goes) in
    record {
      told = g.told;
      left_is = shared-more channels k old new session session' moment piece octets es first before now s same apart g.told g.left_is;
      comes_to = results channels k old new session session' moment piece octets es first before now s same apart g.told g.left_is result g.comes_to;
      others = others channels k old new session session' moment piece octets es first before now s same apart g.told g.left_is;
    }

-- ---- what others are told and sent

pub other-told : (j k : ℕ) (moment : DateTime) (told : List Told) → (j ≡ k → ⊥) → told_by j (at_moment k moment told) ≡ []
other-told j k moment told differ = told-other j k moment told (other-number j k differ)

pub other-sent : (channels : ℕ → ℕ) (j k : ℕ) (p : SharedState) (moment : DateTime) (told : List Told) → (j ≡ k → ⊥)
    → sent_to channels j p (at_moment k moment told) ≡ []
other-sent channels j k p moment told differ = sent-other channels j k p moment told (other-number j k differ)
