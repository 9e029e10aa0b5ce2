-- Where a place is settled: the channel is open, and none of its calls is pending.
use Rattle.std.specs.Prelude.{◌≡◌, ℕ, ◌+◌, ◌≤◌, ◌<◌, Bool, true, false, cond, not, ◌&&◌, List, [], ◌∷◌, ◌++◌, length, map, Option, Some, None}
use Rattle.std.proofs.Common.{refl, sym, ◌∙◌, ap, subst, eqb, arith}
use Rattle.std.specs.List.{AllByRecursion, filter, list_any}
use Rattle.std.proofs.lemmas.Bool.{or_parts}
use Rattle.std.proofs.lemmas.List.{length-append}
use Rattle.ua_builtin.specs.declared.status_code.StatusCode.{StatusCode}
use Rattle.ua_frame.specs.After.{each_from}
use Rattle.ua_frame.specs.declared.limits.Limits.{Limits}
use Rattle.ua_chunk.proofs.Lists.{filter_append}
use Rattle.ua_chunk.proofs.OneMore.{delivered_from}
use Rattle.ua_chunk.specs.Abort.{abort_of}
use Rattle.ua_chunk.specs.Delivered.{aborted, given, given_by}
use Rattle.ua_chunk.specs.Flag.{is_more_flag}
use Rattle.ua_chunk.specs.Gathered.{ends, gathered, is_of, joined}
use Rattle.ua_chunk.specs.Item.{Item}
use Rattle.ua_chunk.specs.Item.Item.{Whole, Aborted}
use Rattle.ua_chunk.specs.Merge.{is_item_of}
use Rattle.ua_chunk.specs.declared.chunk.Chunk.{Chunk}
use Rattle.ua_chunk.specs.declared.flag.Flag.{Flag}
use Rattle.ua_chunk.specs.declared.flag.Flag.TheVariants.{F, C, A}
use Rattle.ua_chunk.specs.declared.lane.Lane.{Lane}
use Rattle.ua_services.specs.declared.request.Request.{Request}
use Rattle.ua_channel.specs.Asks.{Asking, Placed, asked_in, calls, is_finished, pending_calls, renewals}
use Rattle.ua_channel.specs.Asks.Asking.{Call, Renewal}
use Rattle.ua_channel.specs.Client.{InPhase, IsNotOpen, client_limits, phase_of}
use Rattle.ua_channel.specs.ClientAsks.{call_lane}
use Rattle.ua_channel.specs.ClientTold.{ClientTold, told_item}
use Rattle.ua_channel_laws.specs.Paired.{delivered_under}
use Rattle.ua_channel.specs.Received.{Received}
use Rattle.ua_channel.specs.declared.client.channel.ClientChannel.{ClientChannel}
use Rattle.ua_channel.specs.declared.client.phase.Phase.{Phase}
use Rattle.ua_channel.specs.declared.client.phase.Phase.TheVariants as phase
use Rattle.ua_channel_laws.proofs.Opened.{client_open}
use Rattle.ua_client.specs.Calls.{Answered}
use Rattle.ua_client.specs.Opening.{is_opened}
use Rattle.ua_client.specs.Renewing.{IsSettled}
use Rattle.ua_client.specs.Replies.{AreReplies}
use Rattle.ua_client.specs.Sent.{bodies_of, calls_at}
use Rattle.ua_client.specs.ClientPlace.{ClientPlace, StandsAt, id_at, lane_behind}
use Rattle.ua_client.specs.Told.{is_told_of, told_of}
use Rattle.ua_client.specs.declared.reply.Reply.{Reply}
use Rattle.ua_client.proofs.Hearsay.{TellsDelivered, told-under}
use Rattle.ua_client.proofs.Lanes.{lane-talks}
use Rattle.ua_client.proofs.Openings.{any-left}
use Rattle.ua_client.proofs.Renewals.{tokens-append, tokens-told, told-opened}

-- ---- calls of which something was told

-- something was told of each of these calls
abbrev pub AreTold : List ClientTold → List ℕ → Type 0
AreTold told ids = AllByRecursion (λ (id : ℕ). 0 < length (told_of id told)) ids

pub told-longer : (us vs : List ClientTold) (ids : List ℕ) → AreTold us ids → AreTold (us ++ vs) ids
told-longer us vs [] h = tt
told-longer us vs (id ∷ ids) h =
    let all = ap length (filter_append (is_told_of id) us vs) in
    let sum = length-append (told_of id us) (told_of id vs) in
    let some = h.0 in
    (omega (arith, all, sum, some), told-longer us vs ids h.1)

-- a renewal is no call
pub told-renewed : (told : List ClientTold) (asks : List Placed) (place id : ℕ) → AreTold told (calls (asked_in asks))
    → AreTold told (calls (asked_in (asks ++ (place, Renewal id) ∷ [])))
unfolding asked_in calls
told-renewed told [] place id h = tt
told-renewed told ((p, Call j) ∷ asks) place id h = (h.0, told-renewed told asks place id h.1)
told-renewed told ((p, Renewal j) ∷ asks) place id h = told-renewed told asks place id h

told-answered : (told : List ClientTold) (requests : List Request) (place id : ℕ) (replies : List Reply) → AreReplies requests id told replies
    → AreTold told (calls (asked_in (calls_at place id (bodies_of requests))))
unfolding asked_in calls
told-answered told [] place id [] h = tt
told-answered told [] place id (reply ∷ replies) h = absurd h
told-answered told (r ∷ rs) place id [] h = absurd h
told-answered told (r ∷ rs) place id (reply ∷ replies) h =
    let one = ap length h.0.1 in
    (omega (arith, one), told-answered told rs place (id + 1) replies h.1)

told-both : (told : List ClientTold) (asks more : List Placed) → AreTold told (calls (asked_in asks)) → AreTold told (calls (asked_in more))
    → AreTold told (calls (asked_in (asks ++ more)))
unfolding asked_in calls
told-both told [] more h k = k
told-both told ((p, Call j) ∷ asks) more h k = (h.0, told-both told asks more h.1 k)
told-both told ((p, Renewal j) ∷ asks) more h k = told-both told asks more h k

no-renewals : (place id : ℕ) (bodies : List (List ℕ)) → renewals (asked_in (calls_at place id bodies)) ≡ []
unfolding asked_in renewals
no-renewals place id [] = refl
no-renewals place id (body ∷ bodies) = no-renewals place (id + 1) bodies

renewals-behind : (asks more : List Placed) → renewals (asked_in more) ≡ [] → length (renewals (asked_in (asks ++ more))) ≡ length (renewals (asked_in asks))
unfolding asked_in renewals
renewals-behind [] more none = ap length none
renewals-behind ((p, Call j) ∷ asks) more none = renewals-behind asks more none
renewals-behind ((p, Renewal j) ∷ asks) more none = let e = renewals-behind asks more none in omega (arith, e)

-- ---- it may be called again

settled-from : (s t : ClientPlace) (more : List ClientTold) → IsSettled s → t.told ≡ s.told ++ more
    → length (renewals (asked_in t.asks)) ≡ length (renewals (asked_in s.asks)) → AreTold t.told (calls (asked_in t.asks)) → IsSettled t
settled-from s t more h told renewed answered =
    let all : tokens-told t.told ≡ tokens-told s.told + tokens-told more = ap tokens-told told ∙ tokens-append s.told more in
    let few : length (renewals (asked_in s.asks)) ≤ tokens-told s.told = h.renewed in
    record { opened = ap (list_any is_opened) told ∙ any-left is_opened s.told more h.opened; answered = answered; renewed = omega (arith, few, renewed, all) }

still-told : (s t : ClientPlace) (more : List ClientTold) → IsSettled s → t.told ≡ s.told ++ more → AreTold t.told (calls (asked_in s.asks))
still-told s t more h told = subst (λ (ts : List ClientTold). AreTold ts (calls (asked_in s.asks))) (sym told)
    (told-longer s.told more (calls (asked_in s.asks)) h.answered)

pub later-settled : (s t : ClientPlace) (more : List ClientTold) → IsSettled s → t.asks ≡ s.asks → t.told ≡ s.told ++ more → IsSettled t
later-settled s t more h asks told =
    settled-from s t more h told (ap (λ (asks : List Placed). length (renewals (asked_in asks))) asks)
    (subst (λ (asks : List Placed). AreTold t.told (calls (asked_in asks))) (sym asks) (still-told s t more h told))

pub answered-settled : (requests : List Request) (s t : ClientPlace) (taken : List ℕ) (replies : List Reply) → IsSettled s → Answered requests s t taken replies
    → IsSettled t
answered-settled requests s t taken replies h a =
    let asked : List Placed = calls_at (length s.octets) (id_at s) (bodies_of requests) in
    settled-from s t a.heard h a.told
    (ap (λ (asks : List Placed). length (renewals (asked_in asks))) a.asks
    ∙ renewals-behind s.asks asked (no-renewals (length s.octets) (id_at s) (bodies_of requests)))
    (subst (λ (asks : List Placed). AreTold t.told (calls (asked_in asks))) (sym a.asks)
    (told-both t.told s.asks asked (still-told s t a.heard h a.told) (told-answered t.told requests (length s.octets) (id_at s) replies a.replies_are)))

-- ---- what is told of a call ends it

left-false : (b : Bool) → (b && true) ≡ false → b ≡ false
left-false true e = absurd cc
left-false false e = refl

aborted-other : (id r : ℕ) (o : Option (StatusCode × Option (List ℕ))) → eqb r id ≡ false → filter (is_item_of id) (aborted r o) ≡ []
aborted-other id r None e = refl
aborted-other id r (Some a) e = ap (λ (b : Bool). cond b (Aborted r a.0 a.1 ∷ []) []) e

given-none : (id : ℕ) (f : Flag) (cs : List Chunk) (c : Chunk) → (eqb c.request id && not (is_more_flag f)) ≡ false
    → filter (is_item_of id) (given_by f cs c) ≡ []
given-none id F cs c e = ap (λ (b : Bool). cond b (Whole c.request (joined (gathered cs c)) ∷ []) []) (left-false (eqb c.request id) e)
given-none id C cs c e = refl
given-none id A cs c e = aborted-other id c.request (abort_of c.body) (left-false (eqb c.request id) e)

unfinished-from : (id : ℕ) (start cs : List Chunk) → is_finished cs id ≡ false → filter (is_item_of id) (each_from given start cs) ≡ []
unfinished-from id start [] e = refl
unfinished-from id start (c ∷ cs) e =
    let parts = or_parts (is_of id c && ends c) (is_finished cs id) e in
    filter_append (is_item_of id) (given start c) (each_from given (start ++ c ∷ []) cs)
    ∙ (ap (λ (is : List Item). is ++ filter (is_item_of id) (each_from given (start ++ c ∷ []) cs)) (given-none id c.flag start c parts.0)
    ∙ unfinished-from id (start ++ c ∷ []) cs parts.1)

unfinished-none : (id : ℕ) (cs : List Chunk) → is_finished cs id ≡ false → delivered_under id cs ≡ []
unfinished-none id cs e = ap (filter (is_item_of id)) (delivered_from cs) ∙ unfinished-from id [] cs e

none-left : (told : List ClientTold) (cs : List Chunk) (ids : List ℕ) → ((id : ℕ) → 0 < length (told_of id told) → is_finished cs id ≡ true) → AreTold told ids
    → filter (λ (id : ℕ). not (is_finished cs id)) ids ≡ []
none-left told cs [] finished h = refl
none-left told cs (id ∷ ids) finished h =
    ap (λ (b : Bool). cond (not b) (id ∷ filter (λ (j : ℕ). not (is_finished cs j)) ids) (filter (λ (j : ℕ). not (is_finished cs j)) ids)) (finished id h.0)
    ∙ none-left told cs ids finished h.1

-- ---- what is so there

-- the law of which calls are pending
abbrev pub NonePending : Type 0
NonePending = (x : ClientChannel) (s : ClientPlace) → StandsAt x s → IsSettled s → pending_calls s.before.messages (asked_in s.asks) ≡ []

pub phase-there : (x : ClientChannel) (s : ClientPlace) → StandsAt x s → InPhase (client_limits x) (phase_of x) s.before (asked_in s.asks)
phase-there x s at = subst (λ (b : Received). InPhase (client_limits x) (phase_of x) b (asked_in s.asks)) at.before_is at.goes.stands.phase_is

module _ (x : ClientChannel) (s : ClientPlace) (at : StandsAt x s) (settled : IsSettled s) where
  pub is-open : IsNotOpen (phase_of x) → ⊥
  is-open n =
      told-opened (client_limits x) s.asks at.goes.frames (ap (list_any is_opened) at.goes.told_is ∙ settled.opened)
      ((client_open x s.asks s.octets at.goes.frames at.goes.rest at.goes.stands).0 n)

  finished : TellsDelivered → (id : ℕ) → 0 < length (told_of id s.told) → is_finished s.before.messages id ≡ true
  finished tells id some = by (is_finished s.before.messages id) refl
    where
      told : told_of id s.told ≡ map told_item (delivered_under id s.before.messages)
      told =
          ap (told_of id) (sym at.goes.told_is)
          ∙ (told-under tells id (client_limits x) s.asks at.goes.frames ∙ ap (λ (b : Received). map told_item (delivered_under id b.messages)) at.before_is)

      by : (b : Bool) → is_finished s.before.messages id ≡ b → is_finished s.before.messages id ≡ true
      by true e = e
      by false e =
          let none : length (told_of id s.told) ≡ 0 = ap length (told ∙ ap (map told_item) (unfinished-none id s.before.messages e)) in
          absurd (omega (arith, none, some))

  pub none-pending : TellsDelivered → pending_calls s.before.messages (asked_in s.asks) ≡ []
  unfolding pending_calls
  none-pending tells = none-left s.told s.before.messages (calls (asked_in s.asks)) (finished tells) settled.answered

lane-in : (limits : Limits) (p : Phase) (before : Received) (asked : List Asking) → InPhase limits p before asked → (IsNotOpen p → ⊥)
    → (lane : Lane) × (lane_behind before ≡ Some lane)
lane-in limits phase.Waiting before asked h some = absurd (some tt)
lane-in limits (phase.Agreed a) before asked h some = absurd (some tt)
lane-in limits (phase.Open t) before asked h some = (call_lane t.agreed.ack t.channel t.newest, lane-talks limits t before asked h)
lane-in limits phase.Done before asked h some = absurd (some tt)

-- there is a lane
pub settled-lane : (x : ClientChannel) (s : ClientPlace) → StandsAt x s → IsSettled s → (lane : Lane) × (lane_behind s.before ≡ Some lane)
settled-lane x s at settled = lane-in (client_limits x) (phase_of x) s.before (asked_in s.asks) (phase-there x s at) (is-open x s at settled)
