-- No two connections have one session, so that the token of one is none of another.
use Rattle.std.specs.Prelude.{◌≡◌, ℕ, ◌+◌, ◌≤◌, nat_eq, Bool, true, false, not, cond, List, [], ◌∷◌, ◌++◌, Option, None, Some, Result, Ok, Err}
use Rattle.std.proofs.Common.{refl, sym, ◌∙◌, subst, arith}
use Rattle.ua_builtin.specs.Reasons.{first_reason}
use Rattle.ua_builtin.specs.declared.date_time.DateTime.{DateTime}
use Rattle.ua_channel.specs.ServerTold.{Told, Agreed, Opened, Asked, GaveUp, Closed}
use Rattle.ua_services.specs.Request.{request_read}
use Rattle.ua_services.specs.declared.fault.RequestFault.{RequestFault}
use Rattle.ua_services.specs.declared.request.Request.{Request}
use Rattle.ua_services.specs.declared.request.Request.TheVariants.{GetEndpoints, CreateSession, ActivateSession, CloseSession, Read, Write}
use Rattle.ua_services.specs.declared.response.Response.{Response}
use Rattle.ua_opening.specs.declared.header.RequestHeader.{RequestHeader}
use Rattle.ua_server.specs.Answer.{answer, fault_of, session_header, unless}
use Rattle.ua_server.specs.Attributes.{read_reasons, values_given, write_reasons, with_written, statuses_given}
use Rattle.ua_server.specs.Reply.{answered, answered_by}
use Rattle.ua_server.specs.Sessions.{create_reasons, session_given, activate_reasons, with_activated, activation_given, close_reasons, close_given}
use Rattle.ua_server.specs.Sharing.{SharedEvent, At, Changed, Own, SharedState, answer_at, course_at, opened, shared_by, shared_over}
use Rattle.ua_server.specs.State.{State, activated, begun, is_own, session_token, with_next_session}
use Rattle.ua_server.specs.Status.{bad_session_id_invalid}
use Rattle.ua_server.specs.declared.session.Session.{Session}
use Rattle.ua_server.proofs.Sharings.{number-is, other-number, shared-append}

-- ---- two sessions

-- the session, if there is one, is one of those made
abbrev IsMade : Option Session → ℕ → Type 0
IsMade None made = Unit {0}
IsMade (Some s) made = s.number ≤ made

-- the two, where there are two, are not one
abbrev AreTwo : Option Session → Option Session → Type 0
AreTwo None b = Unit {0}
AreTwo (Some s) None = Unit {0}
AreTwo (Some s) (Some t) = s.number ≡ t.number → ⊥

record Two (a b : Option Session) (made : ℕ) : Type 0 where
  mine : IsMade a made
  theirs : IsMade b made
  two : AreTwo a b

made-more : (a : Option Session) (n m : ℕ) → n ≤ m → IsMade a n → IsMade a m
made-more None n m l h = tt
made-more (Some s) n m l h = omega (arith, l, h)

turned : (a b : Option Session) → AreTwo a b → AreTwo b a
turned None None h = tt
turned None (Some t) h = tt
turned (Some s) None h = tt
turned (Some s) (Some t) h = λ e. h (sym e)

turn : (a b : Option Session) (made : ℕ) → Two a b made → Two b a made
turn a b made h = record { mine = h.theirs; theirs = h.mine; two = turned a b h.two }

-- a session that is made next is another one
next-two : (b : Option Session) (made : ℕ) → IsMade b made → AreTwo (Some (record { number = made + 1; activated = false })) b
next-two None made h = tt
next-two (Some t) made h = λ e. let i : made + 1 ≡ t.number = e in omega (arith, i, h)

active-made : (a : Option Session) (made : ℕ) → IsMade a made → IsMade (activated a) made
active-made None made h = tt
active-made (Some s) made h = h

active-two : (a b : Option Session) → AreTwo a b → AreTwo (activated a) b
active-two None b h = tt
active-two (Some s) None h = tt
active-two (Some s) (Some t) h = h

-- ---- one message

-- the session of the state stays apart from another, and no fewer sessions were made
abbrev KeepsApart : Option Session → State → State → Type 0
KeepsApart b s now = (Two s.session b s.made → Two now.session b now.made) × (s.made ≤ now.made)

same-apart : (b : Option Session) (s now : State) → now.session ≡ s.session → now.made ≡ s.made → KeepsApart b s now
same-apart b s now e f = (λ h. rw (e, f) h, omega (arith, f))

unless-apart : (b : Option Session) (o : Option ℕ) (s : State) (moment : DateTime) (h : RequestHeader) (given : State × Response) → KeepsApart b s given.0
    → KeepsApart b s (unless o s moment h given).0
unless-apart b None s moment h given e = e
unless-apart b (Some code) s moment h given e = same-apart b s s refl refl

next-apart : (b : Option Session) (s : State) → KeepsApart b s (with_next_session s)
next-apart b s = (
  λ h. record { mine = omega arith; theirs = made-more b s.made (s.made + 1) (omega arith) h.theirs; two = next-two b s.made h.theirs },
  omega arith,
)

active-apart : (b : Option Session) (s : State) → KeepsApart b s (with_activated s)
active-apart b s = (λ h. record { mine = active-made s.session s.made h.mine; theirs = h.theirs; two = active-two s.session b h.two }, omega arith)

begun-apart : (b : Option Session) (s : State) → KeepsApart b s (begun s)
begun-apart b s = (λ h. record { mine = tt; theirs = h.theirs; two = tt }, omega arith)

answer-apart : (b : Option Session) (s : State) (moment : DateTime) (m : Request) → KeepsApart b s (answer s moment m).0
answer-apart b s moment (GetEndpoints m) = same-apart b s s refl refl
answer-apart b s moment (CreateSession m) = unless-apart b (first_reason (create_reasons s)) s moment m.request_header
    (with_next_session s, session_given s moment m) (next-apart b s)
answer-apart b s moment (ActivateSession m) = unless-apart b (first_reason (activate_reasons s m)) s moment m.request_header
    (with_activated s, activation_given moment m) (active-apart b s)
answer-apart b s moment (CloseSession m) = unless-apart b (first_reason (close_reasons s m)) s moment m.request_header (begun s, close_given moment m)
    (begun-apart b s)
answer-apart b s moment (Read m) = unless-apart b (first_reason (read_reasons s m)) s moment m.request_header (s, values_given s moment m)
    (same-apart b s s refl refl)
answer-apart b s moment (Write m) = unless-apart b (first_reason (write_reasons s m)) s moment m.request_header
    (with_written s moment m, statuses_given s moment m) (same-apart b s (with_written s moment m) refl refl)

answered-apart : (b : Option Session) (s : State) (moment : DateTime) (octets : List ℕ) → KeepsApart b s (answered s moment octets).0
answered-apart b s moment octets = by (request_read octets)
  where
    by : (r : Result Request RequestFault) → KeepsApart b s (answered_by r s moment).0
    by (Ok m) = answer-apart b s moment m
    by (Err f) = same-apart b s s refl refl

told-apart : (channels : ℕ → ℕ) (p : SharedState) (i : ℕ) (t : Told) (moment : DateTime) (b : Option Session)
    → KeepsApart b (course_at p i).state (answer_at channels p i t moment).1.state
told-apart channels p i (Agreed agreement) moment b = same-apart b (course_at p i).state (course_at p i).state refl refl
told-apart channels p i (Opened id handle token lifetime) moment b = same-apart b (course_at p i).state (course_at p i).state refl refl
told-apart channels p i (Asked id token octets) moment b = answered-apart b (course_at p i).state moment octets
told-apart channels p i (GaveUp id) moment b = same-apart b (course_at p i).state (course_at p i).state refl refl
told-apart channels p i Closed moment b = same-apart b (course_at p i).state (course_at p i).state refl refl

-- ---- all events

-- the sessions of two connections are two
abbrev Apart : ℕ → ℕ → SharedState → Type 0
Apart j k p = Two (p.own j).session (p.own k).session p.state.made

event-apart : (channels : ℕ → ℕ) (j k : ℕ) (p : SharedState) (e : SharedEvent) → (j ≡ k → ⊥) → Apart j k p → Apart j k (shared_by channels p e)
event-apart channels j k p (Changed nodes) differ h = h
event-apart channels j k p (At i t moment) differ h = by (nat_eq j i) (nat_eq k i) refl refl
  where
    own-now : ℕ → Bool → Own
    own-now n x =
        cond x (record {
          session = (answer_at channels p i t moment).1.state.session;
          number = (answer_at channels p i t moment).1.number;
          agreement = (answer_at channels p i t moment).1.agreement;
        }) (p.own n)

    made : ℕ
    made = (answer_at channels p i t moment).1.state.made

    by : (x y : Bool) → nat_eq j i ≡ x → nat_eq k i ≡ y → Two (own-now j (nat_eq j i)).session (own-now k (nat_eq k i)).session made
    by true true e f = absurd (differ (number-is j i e ∙ sym (number-is k i f)))
    by true false e f =
        let here = subst (λ (n : ℕ). Two (p.own n).session (p.own k).session p.state.made) (number-is j i e) h in
        subst (λ (x : Bool). Two (own-now j x).session (own-now k (nat_eq k i)).session made) (sym e)
        (subst (λ (y : Bool). Two (own-now j true).session (own-now k y).session made) (sym f)
        ((told-apart channels p i t moment (p.own k).session).0 here))
    by false true e f =
        let here = subst (λ (n : ℕ). Two (p.own n).session (p.own j).session p.state.made) (number-is k i f)
        (turn (p.own j).session (p.own k).session p.state.made h) in
        subst (λ (x : Bool). Two (own-now j x).session (own-now k (nat_eq k i)).session made) (sym e)
        (subst (λ (y : Bool). Two (own-now j false).session (own-now k y).session made) (sym f)
        (turn (answer_at channels p i t moment).1.state.session (p.own j).session made ((told-apart channels p i t moment (p.own j).session).0 here)))
    by false false e f =
        subst (λ (x : Bool). Two (own-now j x).session (own-now k (nat_eq k i)).session made) (sym e)
        (subst (λ (y : Bool). Two (own-now j false).session (own-now k y).session made) (sym f)
        (let more = (told-apart channels p i t moment None).1 in record {
          mine = made-more (p.own j).session p.state.made made more h.mine;
          theirs = made-more (p.own k).session p.state.made made more h.theirs;
          two = h.two;
        }))

events-apart : (channels : ℕ → ℕ) (j k : ℕ) (p : SharedState) (es : List SharedEvent) → (j ≡ k → ⊥) → Apart j k p → Apart j k (shared_over channels p es)
events-apart channels j k p [] differ h = h
events-apart channels j k p (e ∷ es) differ h = events-apart channels j k (shared_by channels p e) es differ (event-apart channels j k p e differ h)

-- ---- the token of another

not-own : (a b : Option Session) (theirs : Session) → AreTwo a b → b ≡ Some theirs → is_own (session_token theirs.number) a ≡ false
not-own None b theirs two e = refl
not-own (Some mine) None theirs two e = absurd cc
not-own (Some mine) (Some t) theirs two e =
    let same : t ≡ theirs = cc in
    other-number theirs.number mine.number (λ e. two (sym e ∙ rw (sym same)))

refused : (s : State) (moment : DateTime) (asking : RequestHeader) (rest : List (ℕ × Bool)) (given : State × Response)
    → is_own asking.authentication_token s.session ≡ false
    → unless (first_reason ((bad_session_id_invalid, not (is_own asking.authentication_token s.session)) ∷ rest)) s moment asking given
    ≡ (s, fault_of asking.request_handle bad_session_id_invalid moment)
refused s moment asking rest given e = rw e

abbrev rest_of : List (ℕ × Bool) → List (ℕ × Bool)
rest_of [] = []
rest_of (r ∷ rs) = rs

header-is : (a b : RequestHeader) → ◌≡◌ {A = Option RequestHeader} (Some a) (Some b) → a ≡ b
header-is a b e = cc

refuses : (s : State) (moment : DateTime) (m : Request) (asking : RequestHeader) → session_header m ≡ Some asking
    → is_own asking.authentication_token s.session ≡ false
    → answer s moment m ≡ (s, fault_of asking.request_handle bad_session_id_invalid moment)
refuses s moment (GetEndpoints m) asking e h = absurd cc
refuses s moment (CreateSession m) asking e h = absurd cc
refuses s moment (ActivateSession m) asking e h =
    rw (← header-is m.request_header asking e) (refused s moment m.request_header (rest_of (activate_reasons s m)) (with_activated s, activation_given moment m)
    (rw (header-is m.request_header asking e) h))
refuses s moment (CloseSession m) asking e h =
    rw (← header-is m.request_header asking e) (refused s moment m.request_header (rest_of (close_reasons s m)) (begun s, close_given moment m)
    (rw (header-is m.request_header asking e) h))
refuses s moment (Read m) asking e h =
    rw (← header-is m.request_header asking e) (refused s moment m.request_header (rest_of (read_reasons s m)) (s, values_given s moment m)
    (rw (header-is m.request_header asking e) h))
refuses s moment (Write m) asking e h =
    rw (← header-is m.request_header asking e)
    (refused s moment m.request_header (rest_of (write_reasons s m)) (with_written s moment m, statuses_given s moment m)
    (rw (header-is m.request_header asking e) h))

-- ---- a session of any time

-- the session of a connection is not this one, and stays another
since-event : (channels : ℕ → ℕ) (k : ℕ) (b : Option Session) (p : SharedState) (e : SharedEvent) → Two (p.own k).session b p.state.made
    → Two ((shared_by channels p e).own k).session b (shared_by channels p e).state.made
since-event channels k b p (Changed nodes) h = h
since-event channels k b p (At i t moment) h = by (nat_eq k i) refl
  where
    own-now : Bool → Own
    own-now x =
        cond x (record {
          session = (answer_at channels p i t moment).1.state.session;
          number = (answer_at channels p i t moment).1.number;
          agreement = (answer_at channels p i t moment).1.agreement;
        }) (p.own k)

    made : ℕ
    made = (answer_at channels p i t moment).1.state.made

    by : (x : Bool) → nat_eq k i ≡ x → Two (own-now (nat_eq k i)).session b made
    by true e =
        rw e ((told-apart channels p i t moment b).0 (rw (← number-is k i e) h))
    by false e =
        rw e (let more = (told-apart channels p i t moment None).1 in record {
          mine = made-more (p.own k).session p.state.made made more h.mine;
          theirs = made-more b p.state.made made more h.theirs;
          two = h.two;
        })

since-events : (channels : ℕ → ℕ) (k : ℕ) (b : Option Session) (p : SharedState) (es : List SharedEvent) → Two (p.own k).session b p.state.made
    → Two ((shared_over channels p es).own k).session b (shared_over channels p es).state.made
since-events channels k b p [] h = h
since-events channels k b p (e ∷ es) h = since-events channels k b (shared_by channels p e) es (since-event channels k b p e h)

two-sessions : (channels : ℕ → ℕ) (j k : ℕ) (first : State) (before es : List SharedEvent) (theirs : Session) → (k ≡ j → ⊥)
    → ((shared_over channels (opened first) before).own j).session ≡ Some theirs
    → AreTwo ((shared_over channels (opened first) (before ++ es)).own k).session (Some theirs)
two-sessions channels j k first before es theirs differ is =
    let p = shared_over channels (opened first) before in
    let then : Two (p.own k).session (p.own j).session p.state.made = events-apart channels k j (opened first) before differ
    (record { mine = tt; theirs = tt; two = tt }) in
    let after : Two ((shared_over channels p es).own k).session (Some theirs) (shared_over channels p es).state.made =
    since-events channels k (Some theirs) p es (rw (← is) then) in
    rw (shared-append channels (opened first) before es) after.two

read-as : (s : State) (moment : DateTime) (octets : List ℕ) (m : Request) → request_read octets ≡ Ok m → answered s moment octets ≡ answer s moment m
read-as s moment octets m e = rw e

pub other_token : (channels : ℕ → ℕ) (j k : ℕ) (first : State) (before es : List SharedEvent) (theirs : Session) (octets : List ℕ) (m : Request)
    (asking : RequestHeader) (moment : DateTime) → (k ≡ j → ⊥)
    → ((shared_over channels (opened first) before).own j).session ≡ Some theirs → request_read octets ≡ Ok m → session_header m ≡ Some asking
    → asking.authentication_token ≡ session_token theirs.number
    → answered (course_at (shared_over channels (opened first) (before ++ es)) k).state moment octets
    ≡ ((course_at (shared_over channels (opened first) (before ++ es)) k).state, fault_of asking.request_handle bad_session_id_invalid moment)
other_token channels j k first before es theirs octets m asking moment differ is read header token =
    let p = shared_over channels (opened first) (before ++ es) in
    read-as (course_at p k).state moment octets m read
    ∙ refuses (course_at p k).state moment m asking header
    (rw token (not-own (p.own k).session (Some theirs) theirs (two-sessions channels j k first before es theirs differ is) refl))
