-- Why a group of calls is not asked, by where the client stands.
use Rattle.std.specs.Prelude.{◌≡◌, ℕ, ◌+◌, ◌≤◌, ◌<◌, nat_le, Bool, true, false, not, ◌++◌, List, [], ◌∷◌, length, take, drop, Option, Some, None, Result, Err}
use Rattle.std.proofs.Common.{refl, sym, ◌∙◌, ap, subst, get_or, arith, zero, suc, add-zero}
use Rattle.std.specs.List.{AllByRecursion}
use Rattle.std.proofs.lemmas.Bool.{lt-leb}
use Rattle.ua_builtin.proofs.FirstReasons.{first_reason-append}
use Rattle.ua_builtin.specs.Reasons.{first_reason, or_else}
use Rattle.ua_frame.specs.declared.ack.Ack.{Ack}
use Rattle.ua_frame.specs.declared.limits.Limits.{Limits}
use Rattle.ua_services.specs.Request.{request}
use Rattle.ua_services.specs.declared.request.Request.{Request}
use Rattle.ua_channel.specs.Asks.{Asking, asked_in, next_id, pending_calls}
use Rattle.ua_channel.specs.Client.{InPhase, IsNotOpen, client_limits, phase_of}
use Rattle.ua_channel.specs.ClientAsks.{is_too_large, most_pending, no_id}
use Rattle.ua_channel.specs.ClientTable.{of_ack}
use Rattle.ua_channel.specs.Received.{Received}
use Rattle.ua_channel.specs.declared.client.channel.ClientChannel.{ClientChannel}
use Rattle.ua_channel.specs.declared.client.fault.AskFault.TheVariants as ask_fault
use Rattle.ua_channel.specs.declared.client.phase.Phase.{Phase}
use Rattle.ua_channel.specs.declared.client.phase.Phase.TheVariants as phase
use Rattle.ua_channel.specs.declared.client.talking.Talking.{Talking}
use Rattle.ua_client.specs.Calls.{refusal_at}
use Rattle.ua_client.specs.Renewing.{IsIdle}
use Rattle.ua_client.specs.Sent.{of_ask, refusal_by, request_refusal, group_refusal, request_reasons, group_reasons, AnswersBy, RefusesBy, bodies_of, place_by}
use Rattle.ua_client.specs.ClientPlace.{ClientPlace, StandsAt, id_at}
use Rattle.ua_client.specs.declared.fault.ClientFault.{ClientFault}
use Rattle.ua_client.specs.declared.fault.ClientFault.TheVariants as fault
use Rattle.ua_client.proofs.Settled.{phase-there}

-- ---- one request

-- the reasons of a channel, as a client names them
abbrev by-channel : Bool → Bool → Bool → Option ClientFault
by-channel full used large = of_ask (first_reason ((ask_fault.TooManyPending, full) ∷ (ask_fault.Exhausted, used) ∷ (ask_fault.RequestTooLarge, large) ∷ []))

-- and those by where a client stands
abbrev by-site : Bool → Bool → Bool → Option ClientFault
by-site writable used large = first_reason ((fault.NotWritable, not writable) ∷ (fault.Exhausted, used) ∷ (fault.TooLarge, large) ∷ [])

same-reason : (used large : Bool) → by-channel false used large ≡ by-site true used large
same-reason true large = refl
same-reason false true = refl
same-reason false false = refl

request-judged : (t : Talking) (more : ℕ) (writable : Bool) (body : List ℕ) → nat_le most_pending (length t.pending.items + more) ≡ false
    → refusal_by writable (phase.Open t) more body ≡ by-site writable (nat_le no_id (t.next + more)) (is_too_large t.agreed.ack body)
request-judged t more false body few = refl
request-judged t more true body few =
    ap (λ (full : Bool). by-channel full (nat_le no_id (t.next + more)) (is_too_large t.agreed.ack body)) few
    ∙ same-reason (nat_le no_id (t.next + more)) (is_too_large t.agreed.ack body)

-- ---- a group

judged-in : (limits : Limits) (p : Phase) (before : Received) (asked : List Asking) → InPhase limits p before asked → (IsNotOpen p → ⊥)
    → pending_calls before.messages asked ≡ [] → (requests : List Request) (more : ℕ)
    → more + length requests ≤ 64 → group_refusal p more requests ≡ first_reason (group_reasons before.ack (next_id asked + more) requests)
judged-in limits phase.Waiting before asked h some none requests more few = absurd (some tt)
judged-in limits (phase.Agreed a) before asked h some none requests more few = absurd (some tt)
judged-in limits phase.Done before asked h some none requests more few = absurd (some tt)
judged-in limits (phase.Open t) before asked h some none requests more few = by requests more few
  where
    room : (n : ℕ) → n < 64 → nat_le most_pending (length t.pending.items + n) ≡ false
    room n few =
        let empty : length t.pending.items ≡ 0 = ap length (h.pending_are ∙ none) in
        lt-leb most_pending (length t.pending.items + n) (omega (arith, empty, few))

    one : (m : Request) (n : ℕ) → n < 64 → request_refusal (phase.Open t) n m ≡ first_reason (request_reasons before.ack (next_id asked + n) m)
    one m n few =
        request-judged t n (request.encodable m) (request.canonical m) (room n few)
        ∙ (ap (λ (id : ℕ). by-site (request.encodable m) (nat_le no_id (id + n)) (is_too_large t.agreed.ack (request.canonical m))) h.next_is
        ∙ ap (λ (a : Option Ack). by-site (request.encodable m) (nat_le no_id (next_id asked + n))
        (of_ack (λ (k : Ack). is_too_large k (request.canonical m)) a)) (sym h.ack_is))

    on : (a b : ℕ) → a + (b + 1) ≡ (a + b) + 1
    on a b = omega arith

    by : (ms : List Request) (n : ℕ) → n + length ms ≤ 64 → group_refusal (phase.Open t) n ms ≡ first_reason (group_reasons before.ack (next_id asked + n) ms)
    by [] n few = refl
    by (m ∷ ms) n few =
        ap (λ (o : Option ClientFault). or_else o (group_refusal (phase.Open t) (n + 1) ms)) (one m n (omega (arith, few)))
        ∙ (ap (λ (o : Option ClientFault). or_else (first_reason (request_reasons before.ack (next_id asked + n) m)) o)
        (by ms (n + 1) (omega (arith, few)) ∙ ap (λ (id : ℕ). first_reason (group_reasons before.ack id ms)) (on (next_id asked) n))
        ∙ sym (first_reason-append (request_reasons before.ack (next_id asked + n) m) (group_reasons before.ack ((next_id asked + n) + 1) ms)))

-- a channel refuses a group just for the first reason that holds where the client stands
pub group-judged : (x : ClientChannel) (requests : List Request) → length requests ≤ 64 → (s : ClientPlace) → StandsAt x s → IsIdle x s
    → group_refusal (phase_of x) 0 requests ≡ refusal_at s requests
group-judged x requests few s at idle =
    judged-in (client_limits x) (phase_of x) s.before (asked_in s.asks) (phase-there x s at) idle.opened idle.calls_answered requests 0 (omega (arith, few))
    ∙ ap (λ (id : ℕ). first_reason (group_reasons s.before.ack id requests)) (add-zero (id_at s))

-- ---- which reasons there are

abbrev pub is_reason : ClientFault → Bool
is_reason fault.NotWritable = true
is_reason fault.Exhausted = true
is_reason fault.TooLarge = true
is_reason other = false

among : (test : ClientFault → Bool) (rs : List (ClientFault × Bool)) (x : ClientFault) → AllByRecursion (λ (r : ClientFault × Bool). test r.0 ≡ true) rs
    → first_reason rs ≡ Some x → test x ≡ true
among test [] x h e = absurd cc
among test ((f, true) ∷ rs) x h e = let same : f ≡ x = cc in subst (λ (y : ClientFault). test y ≡ true) same h.0
among test ((f, false) ∷ rs) x h e = among test rs x h.1 e

are-reasons : (ack : Option Ack) (id : ℕ) (requests : List Request)
    → AllByRecursion (λ (r : ClientFault × Bool). is_reason r.0 ≡ true) (group_reasons ack id requests)
are-reasons ack id [] = tt
are-reasons ack id (m ∷ ms) = (refl, (refl, (refl, are-reasons ack (id + 1) ms)))

pub refused-for : (s : ClientPlace) (requests : List Request) (x : ClientFault) → refusal_at s requests ≡ Some x → is_reason x ≡ true
refused-for s requests x e = among is_reason (group_reasons s.before.ack (id_at s) requests) x (are-reasons s.before.ack (id_at s) requests) e

-- ---- for which request

-- where the first has no reason, the next one counts
or-behind : (o a b d : Option ClientFault) → or_else o a ≡ None → (a ≡ None → b ≡ d) → or_else o b ≡ d
or-behind None a b d e h = h e
or-behind (Some f) a b d e h = absurd cc

-- one request more behind a group that is refused for nothing
pub group-push : (p : Phase) (more : ℕ) (ms : List Request) (m : Request) → group_refusal p more ms ≡ None
    → group_refusal p more (ms ++ m ∷ []) ≡ request_refusal p (more + length ms) m
group-push p more [] m e = or-none (request_refusal p more m) ∙ ap (λ (n : ℕ). request_refusal p n m) (sym (add-zero more))
  where
    or-none : (o : Option ClientFault) → or_else o None ≡ o
    or-none None = refl
    or-none (Some f) = refl
group-push p more (r ∷ rs) m e =
    or-behind (request_refusal p more r) (group_refusal p (more + 1) rs) (group_refusal p (more + 1) (rs ++ m ∷ []))
    (request_refusal p (more + suc (length rs)) m) e
    (λ none. group-push p (more + 1) rs m none ∙ ap (λ (n : ℕ). request_refusal p n m) (on more (length rs)))
  where
    on : (a b : ℕ) → (a + 1) + b ≡ a + suc b
    on a b = omega arith

group-first : (p : Phase) (ms : List Request) (m : Request) → group_refusal p 0 ms ≡ None → group_refusal p 0 (ms ++ m ∷ []) ≡ request_refusal p (length ms) m
group-first p ms m e = group-push p 0 ms m e ∙ ap (λ (n : ℕ). request_refusal p n m) (none-before (length ms))
  where
    none-before : (n : ℕ) → 0 + n ≡ n
    none-before n = omega arith

pub only-one : (requests : List Request) (m d : Request) → 1 ≤ length requests → length requests < 2 → m ≡ get_or requests 0 d → requests ≡ m ∷ []
only-one [] m d some few e = absurd (omega (arith, some))
only-one (r ∷ []) m d some few e = ap (λ (q : Request). q ∷ []) (sym e)
only-one (r ∷ n ∷ rs) m d some few e = absurd (omega (arith, few))

-- a request that is a group by itself
pub one-judged : {A : Type 0} (p : Phase) (m : Request) (result : Result A ClientFault) → AnswersBy (request_refusal p 0 m) result
    → AnswersBy (group_refusal p 0 (m ∷ [])) result
one-judged {A} p m result h = subst (λ (o : Option ClientFault). AnswersBy {A = A} o result) (sym (group-first p [] m refl)) h

-- the requests up to the next place
pub take-next : (requests : List Request) (n : ℕ) (m d : Request) → n < length requests → m ≡ get_or requests n d
    → take (n + 1) requests ≡ take n requests ++ m ∷ []
take-next [] n m d few e = absurd (omega (arith, few))
take-next (r ∷ rs) zero m d few e = ap (λ (q : Request). q ∷ []) (sym e)
take-next (r ∷ rs) (suc n) m d few e = sym (ap (λ (k : ℕ). take k (r ∷ rs)) (on n))
    ∙ ap (λ (ms : List Request). r ∷ ms) (take-next rs n m d (omega (arith, few)) e)
  where
    on : (a : ℕ) → suc (a + 1) ≡ suc a + 1
    on a = omega arith

-- the requests from this place on
drop-next : (requests : List Request) (n : ℕ) (m d : Request) → n < length requests → m ≡ get_or requests n d → drop n requests ≡ m ∷ drop (n + 1) requests
drop-next [] n m d few e = absurd (omega (arith, few))
drop-next (r ∷ rs) zero m d few e = ap (λ (q : Request). q ∷ rs) (sym e)
drop-next (r ∷ rs) (suc n) m d few e = drop-next rs n m d (omega (arith, few)) e ∙ ap (λ (k : ℕ). m ∷ drop k (r ∷ rs)) (on n)
  where
    on : (a : ℕ) → suc (a + 1) ≡ suc a + 1
    on a = omega arith

-- the group is judged from the next place on
pub group-rest : (p : Phase) (requests : List Request) (n : ℕ) (m d : Request) → n < length requests → m ≡ get_or requests n d → request_refusal p n m ≡ None
    → group_refusal p n (drop n requests) ≡ group_refusal p (n + 1) (drop (n + 1) requests)
group-rest p requests n m d few e none =
    ap (λ (ms : List Request). group_refusal p n ms) (drop-next requests n m d few e)
    ∙ ap (λ (o : Option ClientFault). or_else o (group_refusal p (n + 1) (drop (n + 1) requests))) none

-- one body more
pub bodies-next : (ms : List Request) (m : Request) → bodies_of (ms ++ m ∷ []) ≡ bodies_of ms ++ request.canonical m ∷ []
bodies-next [] m = refl
bodies-next (r ∷ rs) m = ap (λ (bs : List (List ℕ)). request.canonical r ∷ bs) (bodies-next rs m)

pub take-count : (requests : List Request) (n : ℕ) → n ≤ length requests → length (take n requests) ≡ n
take-count [] zero few = refl
take-count [] (suc n) few = absurd (omega (arith, few))
take-count (r ∷ rs) zero few = refl
take-count (r ∷ rs) (suc n) few = ap suc (take-count rs n (omega (arith, few)))

-- one more is refused for nothing
pub group-more : (p : Phase) (requests : List Request) (n : ℕ) (m : Request) → take (n + 1) requests ≡ take n requests ++ m ∷ [] → length (take n requests) ≡ n
    → group_refusal p 0 (take n requests) ≡ None
    → request_refusal p n m ≡ None → group_refusal p 0 (take (n + 1) requests) ≡ None
group-more p requests n m is count before e =
    ap (λ (ms : List Request). group_refusal p 0 ms) is ∙ (group-first p (take n requests) m before ∙ (ap (λ (k : ℕ). request_refusal p k m) count ∙ e))

-- the first that is refused
pub refuses-at : (p : Phase) (requests : List Request) (n : ℕ) (m : Request) (f : ClientFault) → take (n + 1) requests ≡ take n requests ++ m ∷ []
    → length (take n requests) ≡ n → group_refusal p 0 (take n requests) ≡ None
    → AnswersBy {A = Unit {0}} (request_refusal p n m) (Err f) → RefusesBy p requests (place_by f n) f
refuses-at p requests n m fault.OutOfMemory is count before e = refl
refuses-at p requests n m fault.Read is count before e = (
  before,
  ap (λ (ms : List Request). group_refusal p 0 ms) is
      ∙ (group-first p (take n requests) m before ∙ (ap (λ (k : ℕ). request_refusal p k m) count ∙ e)),
)
refuses-at p requests n m fault.Write is count before e = (
  before,
  ap (λ (ms : List Request). group_refusal p 0 ms) is
      ∙ (group-first p (take n requests) m before ∙ (ap (λ (k : ℕ). request_refusal p k m) count ∙ e)),
)
refuses-at p requests n m fault.Ended is count before e = (
  before,
  ap (λ (ms : List Request). group_refusal p 0 ms) is
      ∙ (group-first p (take n requests) m before ∙ (ap (λ (k : ℕ). request_refusal p k m) count ∙ e)),
)
refuses-at p requests n m (fault.Peer code) is count before e = (
  before,
  ap (λ (ms : List Request). group_refusal p 0 ms) is
      ∙ (group-first p (take n requests) m before ∙ (ap (λ (k : ℕ). request_refusal p k m) count ∙ e)),
)
refuses-at p requests n m (fault.Refused code) is count before e = (
  before,
  ap (λ (ms : List Request). group_refusal p 0 ms) is
      ∙ (group-first p (take n requests) m before ∙ (ap (λ (k : ℕ). request_refusal p k m) count ∙ e)),
)
refuses-at p requests n m fault.UnknownResponse is count before e = (
  before,
  ap (λ (ms : List Request). group_refusal p 0 ms) is
      ∙ (group-first p (take n requests) m before ∙ (ap (λ (k : ℕ). request_refusal p k m) count ∙ e)),
)
refuses-at p requests n m (fault.Service code) is count before e = (
  before,
  ap (λ (ms : List Request). group_refusal p 0 ms) is
      ∙ (group-first p (take n requests) m before ∙ (ap (λ (k : ℕ). request_refusal p k m) count ∙ e)),
)
refuses-at p requests n m fault.TooLarge is count before e = (
  before,
  ap (λ (ms : List Request). group_refusal p 0 ms) is
      ∙ (group-first p (take n requests) m before ∙ (ap (λ (k : ℕ). request_refusal p k m) count ∙ e)),
)
refuses-at p requests n m fault.NotWritable is count before e = (
  before,
  ap (λ (ms : List Request). group_refusal p 0 ms) is
      ∙ (group-first p (take n requests) m before ∙ (ap (λ (k : ℕ). request_refusal p k m) count ∙ e)),
)
refuses-at p requests n m fault.Exhausted is count before e = (
  before,
  ap (λ (ms : List Request). group_refusal p 0 ms) is
      ∙ (group-first p (take n requests) m before ∙ (ap (λ (k : ℕ). request_refusal p k m) count ∙ e)),
)
refuses-at p requests n m fault.Closed is count before e = (
  before,
  ap (λ (ms : List Request). group_refusal p 0 ms) is
      ∙ (group-first p (take n requests) m before ∙ (ap (λ (k : ℕ). request_refusal p k m) count ∙ e)),
)
refuses-at p requests n m fault.TooLong is count before e = (
  before,
  ap (λ (ms : List Request). group_refusal p 0 ms) is
      ∙ (group-first p (take n requests) m before ∙ (ap (λ (k : ℕ). request_refusal p k m) count ∙ e)),
)
refuses-at p requests n m fault.TooManyTokens is count before e = (
  before,
  ap (λ (ms : List Request). group_refusal p 0 ms) is
      ∙ (group-first p (take n requests) m before ∙ (ap (λ (k : ℕ). request_refusal p k m) count ∙ e)),
)
